pub mod Derived
pub mod FrontToBack
pub mod Grammar
