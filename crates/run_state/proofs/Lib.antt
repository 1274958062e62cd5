-- What the proofs of several functions use, and the laws for the layers above.
pub mod Laid
mod InRange
mod Moving
pub mod Sides
pub mod Laws
mod Touching
mod Following
mod Reaching
mod Parting
mod Wholes
pub mod Ordered
pub mod Arriving
pub mod SameWay
pub mod Outside
pub mod Words
