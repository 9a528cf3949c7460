pub mod Pair
pub mod Laws
pub mod Lawfulness
pub mod Halves
