pub mod SpineLaws
pub mod SideLaws
pub mod ClipLaws
pub mod ClipWalk
pub mod CutWalk
