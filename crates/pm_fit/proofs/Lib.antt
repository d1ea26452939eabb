pub mod FirstLaws
pub mod FitLaws
pub mod HollowLaws
pub mod LargeLaws
pub mod LeastLaws
mod LengthLaws
pub mod NodeLaws
pub mod OptionLaws
pub mod PathLaws
pub mod PeelLaws
pub mod PlaceLaws
pub mod StateLaws
pub mod StepLaws
pub mod TakeLaws
pub mod TypeLaws
