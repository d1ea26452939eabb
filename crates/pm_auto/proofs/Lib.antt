pub mod Orders
pub mod HasLaws
pub mod LangLaws
pub mod FirstLaws
pub mod FollowLaws
mod RunLaws
pub mod TableLaws
pub mod LookLaws
mod RowLaws
mod WidthLaws
pub mod ExprLaws
pub mod TrimLaws
mod PartLaws
mod SetLaws
mod BitLaws
mod MemberLaws
mod AlikeLaws
mod SameAutomata
mod GroupLaws
mod OnceLaws
mod StateLaws
mod KnownLaws
mod PrintLaws
mod TypeLaws
pub mod TreeLaws
mod WayLaws
pub mod AcceptLaws
mod FewLaws
pub mod TwinLaws
pub mod SearchLaws
mod ShareLaws
pub mod GraphLaws
pub mod ReachLaws
