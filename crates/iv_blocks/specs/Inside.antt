-- Definitions that no contract of the program or of the six public crates reaches.
pub mod Groups
pub mod JoinedBlocks
pub mod UnstrandedBlocks
pub mod MembersLeft
pub mod BlockStorage
pub mod StoredBlocks
pub mod Insertion
pub mod Lookups
pub mod Repairs
pub mod BlockCursor
pub mod BlockSweeps
pub mod MergeSweeps
pub mod Regions
pub mod Texts
