pub mod Lead
pub mod Inner
