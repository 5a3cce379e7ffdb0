pub mod ReadingLemmas
pub mod LoadLemmas
pub mod ShotLemmas
mod IntervalsAlone
pub mod PieceLemmas
pub mod ColumnsLemmas
pub mod WantedLemmas
pub mod FilesReadingLemmas
pub mod FastaPieceLemmas
