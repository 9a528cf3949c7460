pub mod State
pub mod Laws
pub mod Lawfulness
