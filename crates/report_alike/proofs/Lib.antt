-- What the proofs of several functions use.
mod Deciding
mod Paired
mod Answering
mod Likeness
mod Merging
