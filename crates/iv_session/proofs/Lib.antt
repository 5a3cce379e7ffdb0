pub mod SizeLemmas
pub mod ReadLemmas
pub mod ScriptLemmas
pub mod StopLemmas
pub mod ColumnLemmas
pub mod RunLemmas
pub mod Examples
pub mod EndingLemmas
