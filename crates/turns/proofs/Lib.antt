pub mod Requests
pub mod Parts
pub mod Spacing
pub mod Histories
