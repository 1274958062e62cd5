pub mod Command
pub mod Encode
pub mod Inner
