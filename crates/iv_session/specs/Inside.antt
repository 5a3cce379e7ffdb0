-- Definitions that no contract of the program or of the six public crates reaches.
pub mod Requests
pub mod ScriptLines
pub mod PulledLines
pub mod Scripts
