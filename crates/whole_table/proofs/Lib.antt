-- What the functions of src/ do with a sound table.
pub mod Settled
pub mod Slots
pub mod Emptying
pub mod Searching
pub mod Inserting
pub mod Striking
pub mod Gaps
