pub mod Syntax
pub mod Render
pub mod WellFormed
pub mod Exactly
