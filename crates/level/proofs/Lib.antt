pub mod Endings
pub mod Delaying
