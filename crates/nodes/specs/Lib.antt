-- Arms and records, and what it is for words to hold a tree, to be read in this order. `Values` gives the code's structs their meaning, `Count`
-- and `Collect` are the mirrors of a count in a tree of either kind and of the collection of its slots.
pub mod Weights
pub mod Arms
pub mod Ways
pub mod Trees
pub mod Values
pub mod Holds
pub mod Count
pub mod Collect
