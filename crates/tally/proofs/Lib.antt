pub mod Step
pub mod Feeding
