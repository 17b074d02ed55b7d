-- What the mirrors of specs/ mean: on words that hold a tree, its slots are merged by y and built into a two-fold tree.
pub mod Merging
pub mod Building
