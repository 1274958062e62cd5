-- The laws for the layers above.
pub mod Opcodes
pub mod Sizes
