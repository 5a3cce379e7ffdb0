-- Definitions that no contract of the program or of the six public crates reaches.
pub mod Files
pub mod FilesReading
pub mod Prints
pub mod Shots
pub mod Intervals
