pub mod ClockLemmas
pub mod ImageLaws
pub mod LimitLaws
pub mod StateLaws
pub mod RunLaws
pub mod FaultLaws
pub mod Firsts
