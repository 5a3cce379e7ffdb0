mod CuttingLemmas
mod FlagLemmas
mod KeptTexts
mod ListLemmas
mod OptionLemmas
mod RegionLemmas
pub mod RecordsAgain
mod RowLemmas
mod MergeArgsLemmas
mod SameLemmas
mod SummaryLemmas
pub mod NarrowingLemmas
pub mod ArgumentLemmas
