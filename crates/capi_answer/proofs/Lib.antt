-- The laws for the functions of the C interface.
pub mod Leaving
pub mod Telling
