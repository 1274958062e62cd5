-- What the proofs of several functions use, and the laws for the layers above.
mod Lists
mod Scan
pub mod Counted
pub mod Fitting
pub mod Rewording
