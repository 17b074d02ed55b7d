-- Mirrors: what the functions of src/ give, on lists and numbers, step by step. What they mean is in proofs/.
pub mod End
pub mod Search
pub mod Count
pub mod List
