pub mod EffectLaws
pub mod PlainLaws
