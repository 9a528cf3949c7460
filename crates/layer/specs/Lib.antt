pub mod Entries
pub mod Forwards
pub mod Contents
pub mod Collects
