pub mod Pages
pub mod Written
pub mod Stores
pub mod Lines
