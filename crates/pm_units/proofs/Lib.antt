pub mod LoneLaws
pub mod TextLaws
