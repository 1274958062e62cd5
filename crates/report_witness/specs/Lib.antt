pub mod Lead
pub mod Witness
pub mod Pair
pub mod Inner
