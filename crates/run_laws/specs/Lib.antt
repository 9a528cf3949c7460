pub mod Runs
pub mod Departures
pub mod Laws
pub mod Cases
