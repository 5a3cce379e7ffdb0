pub mod Arguments
pub mod Notices
pub mod Texts
pub mod Inside
