-- Definitions that no contract of the program or of the six public crates reaches.
pub mod Lengths
pub mod HitFinder
pub mod HitLines
pub mod Counts
pub mod PairSweeps
pub mod PairTexts
