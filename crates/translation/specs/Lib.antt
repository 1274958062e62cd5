pub mod Answer
pub mod Foretold
pub mod Inner
