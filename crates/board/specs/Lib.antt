pub mod Shares
pub mod Slots
pub mod Sets
pub mod Boards
pub mod Flights
pub mod Leaving
