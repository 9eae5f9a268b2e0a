pub mod CountLemmas
pub mod StepLemmas
