pub mod BeginningLaws
pub mod MeetLaws
pub mod BalanceLaws
pub mod NodeLaws
pub mod SliceLaws
pub mod AnswerLaws
pub mod Ops
