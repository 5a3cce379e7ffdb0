-- Definitions that no contract of the program or of the six public crates reaches.
pub mod TrackBlocks
pub mod RemainingBlocks
pub mod Blocks
pub mod NumberFolds
pub mod Values
pub mod Results
