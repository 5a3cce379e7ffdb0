pub mod Hits
pub mod IntersectRows
pub mod PairRows
pub mod Pairs
pub mod CoverAlone
pub mod Inside
