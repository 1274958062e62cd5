-- What the proofs of several functions use, and the laws for the layers above.
mod Unless
mod Truth
pub mod Soundness
pub mod Steady
mod Bench
mod Cleaning
mod Trailing
mod Stopping
mod Taking
mod Hinting
mod Adding
mod Ending
mod Turning
mod Rowing
mod Going
pub mod Joining
pub mod Laying
