-- Definitions that no contract of the program or of the six public crates reaches.
pub mod Fasta
pub mod BaseRanges
pub mod Drafts
pub mod FastaRows
pub mod FastaMeaning
