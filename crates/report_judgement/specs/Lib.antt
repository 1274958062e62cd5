pub mod Proof
pub mod Judging
pub mod Demand
