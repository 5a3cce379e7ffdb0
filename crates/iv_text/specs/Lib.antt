pub mod BedFile
pub mod BedReading
pub mod BedMeaning
pub mod Inside
