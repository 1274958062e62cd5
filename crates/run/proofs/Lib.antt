-- What the proofs of several functions use.
mod Admitting
mod Leftovers
mod Bench
