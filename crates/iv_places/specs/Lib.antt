pub mod Cover
pub mod HeldColumns
pub mod Inside
