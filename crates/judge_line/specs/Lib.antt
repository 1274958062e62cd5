pub mod Text
pub mod Writes
pub mod Line
pub mod Inner
