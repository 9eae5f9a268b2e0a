pub mod MarkLemmas
pub mod PictureLemmas
