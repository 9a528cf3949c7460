pub mod Fresh
pub mod Views
pub mod Schedulers
pub mod Submits
pub mod Hearing
pub mod Admits
pub mod Histories
