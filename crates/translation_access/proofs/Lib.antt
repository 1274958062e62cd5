-- What the proofs of several functions use, and the laws for the layers above.
mod Accessing
pub mod Gates
