pub mod DigitLemmas
pub mod CellLemmas
pub mod OnePassLemmas
pub mod FastLineLemmas
pub mod BedLemmas
pub mod BedReadingLemmas
pub mod BedMeaningLemmas
