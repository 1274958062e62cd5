pub mod Step
pub mod Inputs
pub mod Inner
