pub mod MemberText
