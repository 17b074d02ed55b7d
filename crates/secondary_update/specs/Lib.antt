-- Mirrors: what the functions of src/ give, on lists and numbers, step by step. They take the places of a tree's records and its axis as parameters.
-- What they mean is in proofs/.
pub mod Updates
pub mod Values
pub mod Insert
pub mod Strike
