-- The laws of a translation.
pub mod Places
pub mod Stretches
pub mod Computing
pub mod Gates
pub mod Dead
pub mod Numbers
pub mod Claimed
pub mod Wired
pub mod Formed
pub mod Worth
pub mod Sides
pub mod Tally
pub mod Simples
pub mod Forks
pub mod Alive
pub mod Demand
pub mod Bound
