pub mod Gaps
pub mod State
pub mod Laws
pub mod Lawfulness
pub mod Gapping
