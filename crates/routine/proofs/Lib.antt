-- What the proofs of several functions use, and the laws for the layers above.
mod Answers
pub mod Arms
pub mod Views
pub mod Decoded
pub mod Walking
pub mod Standing
mod Passing
pub mod Text
pub mod Counting
pub mod Extent
pub mod Flat
pub mod Numbering
mod Bench
