-- What the proofs of several functions use, and the laws for the layers above.
pub mod Making
mod Telling
