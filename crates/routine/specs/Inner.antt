-- What inner functions ask and tell each other. No promise of a public call rests on it.
pub mod Walk
pub mod Known
pub mod Passes
pub mod Seeks
pub mod Stands
