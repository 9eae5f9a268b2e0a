pub mod ItemLemmas
pub mod MemberLemmas
pub mod EffectLemmas
pub mod EndLemmas
pub mod SideLemmas
