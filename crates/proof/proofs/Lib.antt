-- What the proofs of several functions use.
mod Fitting
mod Stood
mod Asking
