pub mod DepthRows
pub mod RegionRows
pub mod Changes
pub mod Inside
