pub mod NodeLemmas
pub mod SharingLemmas
mod EntryLemmas
mod ListingLemmas
