pub mod Entry
pub mod Reply
pub mod Left
