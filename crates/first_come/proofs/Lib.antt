pub mod States
pub mod Service
pub mod Completion
