pub mod TextLemmas
pub mod ZipLemmas
