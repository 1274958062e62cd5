-- The laws of accepted bytes.
mod Bytes
mod Commands
mod Operands
mod Heads
mod Written
mod Readings
pub mod Exact
mod Bench
