-- What the mirrors of specs/ mean: `Mending` and `Mended` what an insertion leaves of the model's tree with and without mending; `Node` a node written over two
-- trees; `Inserting` and `Striking` that the words left hold the model's tree; `Auxiliaries` the same against the model's auxiliary register; `Steps` small
-- steps of the way of an insertion; `Outcomes` what is left where no tree is put in the place of damage.
pub mod Mending
pub mod Mended
pub mod Node
pub mod Inserting
pub mod Striking
pub mod Auxiliaries
pub mod Steps
pub mod Outcomes
