-- The table's own words, and the branches of the code; what each call performs; then the history, one theorem over every run.
pub mod Steps
pub mod Own
pub mod Branches
pub mod Performing
pub mod Opening
pub mod Updating
pub mod Reading
pub mod Listing
pub mod Stands
pub mod History
pub mod Cuts
