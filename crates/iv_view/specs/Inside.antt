-- Definitions that no contract of the program or of the six public crates reaches.
pub mod MergeOptions
pub mod RowsAgain
pub mod Texts
