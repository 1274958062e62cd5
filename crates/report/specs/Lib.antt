pub mod Zeroed
pub mod Alike
pub mod Inner
