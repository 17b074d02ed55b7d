-- Mirrors: what the functions of src/ give, on lists and numbers, step by step; what they mean is in proofs/. What a sound table is stands in twofold_layout's
-- specs/Sound.
pub mod Empty
pub mod Insert
pub mod Strike
