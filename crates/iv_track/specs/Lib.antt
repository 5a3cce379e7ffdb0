pub mod Copies
pub mod Edits
pub mod Lent
pub mod Regions
pub mod Tracked
pub mod Inside
