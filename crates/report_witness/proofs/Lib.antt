-- What the proofs of several functions use, and the laws for the layers above.
mod Padding
pub mod Reading
mod Running
pub mod Standing
mod Paired
