-- Definitions that no contract of other crates reaches.
pub mod Chunks
pub mod Replaced
pub mod Seen
