pub mod Groups
pub mod KeptBlocks
pub mod MergeRows
pub mod ClusterRows
pub mod ComplementRows
pub mod RegionRows
pub mod IntervalOptions
pub mod Inside
