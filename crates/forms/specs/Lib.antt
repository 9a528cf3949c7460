pub mod Signs
pub mod Parts
pub mod Contents
pub mod Lanes
pub mod Forms
pub mod Faults
pub mod Lines
pub mod Spelling
