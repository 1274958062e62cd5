-- What the proofs of several functions use, and the laws for the layers above.
pub mod Values
pub mod Extend
pub mod Laws
pub mod Input
pub mod Adder
pub mod Product
pub mod Choose
pub mod Join
