pub mod CountedLemmas
pub mod GroupLemmas
pub mod PackLemmas
pub mod BuiltLemmas
pub mod ClassLemmas
pub mod Counts
pub mod DifferentLemmas
mod CopyLemmas
pub mod Edits
pub mod NumberOrder
pub mod EntryIndexLemmas
pub mod StepLemmas
pub mod TrackLemmas
pub mod WalkLemmas
pub mod PlaceLemmas
pub mod RegionLemmas
