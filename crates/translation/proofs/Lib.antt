-- What the proofs of several functions use.
mod Admitting
mod Storing
mod Foretelling
