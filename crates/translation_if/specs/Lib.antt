pub mod If
pub mod Inner
