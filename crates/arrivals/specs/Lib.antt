pub mod Reading
pub mod Driving
