-- What the proof uses, and the laws for the layers above.
pub mod Kept
