pub mod Side
pub mod State
pub mod Run
pub mod Course
pub mod Goes
pub mod Inner
