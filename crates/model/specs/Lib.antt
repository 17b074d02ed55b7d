-- Document 01 as definitions, to be read in this order. `Laws` is what the theorems of proofs/ speak of, and `Slots` serves the layers above: neither
-- renders a sentence of the paper.
pub mod Lists
pub mod Totals
pub mod Axis
pub mod Register
pub mod Tree
pub mod Search
pub mod Fold
pub mod Sizes
pub mod Sheet
pub mod Refusals
pub mod History
pub mod Cuts
pub mod Laws
pub mod Slots
