pub mod OpenViews
pub mod States
pub mod Edits
pub mod Views
pub mod Resizes
pub mod Regions
pub mod Prints
pub mod Inside
