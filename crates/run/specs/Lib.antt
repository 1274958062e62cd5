pub mod Answer
pub mod Leftovers
pub mod Inner
