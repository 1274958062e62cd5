pub mod Phase
pub mod State
pub mod Check
pub mod Lent
pub mod Sound
pub mod Inner
