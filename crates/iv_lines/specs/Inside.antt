-- Definitions that no contract of the program or of the six public crates reaches.
pub mod Fields
pub mod GenomeFile
pub mod Number
pub mod RecordValue
pub mod RecordText
pub mod Ordered
pub mod Read
pub mod Rests
pub mod Pieces
