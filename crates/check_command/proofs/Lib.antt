pub mod CheckLaws
mod EndLemmas
mod Ordered
mod PartLaws
mod PlaceLemmas
mod ReadLemmas
mod RuleLemmas
mod Telling
mod ViewLemmas
