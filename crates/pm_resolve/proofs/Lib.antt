pub mod OpenLaws
pub mod LevelLaws
pub mod SearchLaws
pub mod AmongLaws
pub mod EnterLaws
pub mod MarkLaws
