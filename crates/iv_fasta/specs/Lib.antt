pub mod Complement
pub mod Fasta
pub mod FastaReading
pub mod FastaRows
pub mod Inside
