-- What the proofs of several functions use, and the laws for the layers above.
pub mod Variables
pub mod Translating
mod Parting
mod Looping
mod Branching
