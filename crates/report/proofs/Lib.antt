-- What the proofs of several functions use.
mod Proper
mod Fitting
mod Decided
mod Zeroes
mod Paired
