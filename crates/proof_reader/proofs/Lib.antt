-- What the layers above know of a command that was read, and of a run of literals.
pub mod Reading
pub mod Running
pub mod Past
pub mod Encoding
