pub mod Sides
pub mod PartLaws
pub mod ValueLaws
pub mod StepLaws
