pub mod Routine
pub mod Decode
pub mod Extent
pub mod Access
pub mod Inner
