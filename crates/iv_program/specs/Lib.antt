pub mod Limits
pub mod Files
pub mod Texts
pub mod Runs
pub mod Program
pub mod Memory
pub mod Outcomes
pub mod Inside
