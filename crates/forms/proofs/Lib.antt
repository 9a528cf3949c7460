pub mod Progress
pub mod Scanning
pub mod Filling
pub mod Endings
pub mod Spelling
pub mod Numbers
