pub mod Fit
pub mod Checking
pub mod Inner
