-- Definitions that no contract of the program or of the six public crates reaches.
pub mod Shown
