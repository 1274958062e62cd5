-- What inner functions ask and tell each other. No promise of a public call rests on it.
pub mod Appends
