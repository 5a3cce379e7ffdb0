-- Definitions that no contract of the program or of the six public crates reaches.
pub mod Counted
pub mod LengthClasses
pub mod Steps
pub mod Tracked
