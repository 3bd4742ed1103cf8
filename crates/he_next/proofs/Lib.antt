pub mod RunLaws
pub mod StepLaws
