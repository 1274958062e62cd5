pub mod Walk
pub mod Translation
pub mod Bound
pub mod Faithful
