pub mod FinishLaws
pub mod NumberLaws
pub mod PlanLaws
pub mod PlannedLaws
pub mod StoreLaws
