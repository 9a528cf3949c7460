pub mod Tables
pub mod Receiving
pub mod Readiness
pub mod Counts
pub mod Synced
pub mod Collecting
