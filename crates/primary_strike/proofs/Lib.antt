-- What the mirrors of specs/ mean: on words that hold a two-fold tree, a slot is struck from it.
pub mod Lifting
pub mod Steps
pub mod Striking
