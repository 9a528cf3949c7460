pub mod Kinds
pub mod Meaning
pub mod Lawful
pub mod History
pub mod Coded
pub mod Codec
pub mod Slots
pub mod Emptied
