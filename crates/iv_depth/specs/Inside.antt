-- Definitions that no contract of the program or of the six public crates reaches.
pub mod Changes
pub mod DepthChanges
pub mod Walks
pub mod Edges
pub mod Region
pub mod RunRows
pub mod SequenceEdges
pub mod Texts
