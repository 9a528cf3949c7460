pub mod Ticks
pub mod Moves
pub mod Due
pub mod Shape
pub mod Lanes
pub mod Tables
pub mod Greatest
pub mod Ended
