pub mod Wires
pub mod Inner
