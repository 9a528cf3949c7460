pub mod Level
pub mod Laws
pub mod Lawfulness
pub mod States
