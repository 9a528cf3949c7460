pub mod Holdings
pub mod Places
