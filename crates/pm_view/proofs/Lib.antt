pub mod KnownLaws
pub mod SlicedLaws
pub mod GroupLaws
pub mod DeepLaws
pub mod ChildLaws
pub mod AheadLaws
pub mod DepthLaws
