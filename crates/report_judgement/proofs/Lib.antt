-- The law that the promise of judging rests on.
pub mod Demanded
