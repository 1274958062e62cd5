pub mod Space
pub mod Inner
