pub mod Roles
pub mod Totals
pub mod Limits
pub mod Moves
pub mod Leaves
pub mod Flying
