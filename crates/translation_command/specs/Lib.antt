pub mod Operation
pub mod Command
pub mod Inner
