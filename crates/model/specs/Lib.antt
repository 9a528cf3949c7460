pub mod Refusals
pub mod Settings
pub mod Payloads
pub mod Ticks
pub mod Calls
pub mod Texts
