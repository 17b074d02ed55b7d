pub mod Lists
pub mod RunSlots
pub mod Tallies
pub mod Packing
pub mod Own
pub mod Fuel
