pub mod Alike
pub mod OneFinding
