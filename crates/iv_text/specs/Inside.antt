-- Definitions that no contract of the program or of the six public crates reaches.
pub mod BedFile
pub mod BedReading
pub mod FastLine
pub mod OnePass
