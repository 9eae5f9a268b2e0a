pub mod TextLemmas
pub mod RowLemmas
pub mod DepthLemmas
pub mod ValueLemmas
mod HeadLemmas
pub mod FitLemmas
pub mod PartLemmas
