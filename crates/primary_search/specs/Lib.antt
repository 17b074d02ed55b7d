-- `Sought` is the search for a mark by the words, for readers. The others are mirrors: what the functions of src/ give, on lists and numbers, step by step.
-- What they mean is in proofs/.
pub mod Sought
pub mod Find
pub mod Count
pub mod List
