pub mod Stepping
pub mod Held
pub mod Spans
pub mod Delaying
pub mod Waiting
pub mod Finishing
