-- Definitions that no contract of the program or of the six public crates reaches.
pub mod Places
pub mod Cover
pub mod Joins
pub mod Ranks
