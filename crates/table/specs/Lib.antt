-- What the words of a table say, to be read in this order.
pub mod Layout
pub mod Header
pub mod Words
pub mod Limits
pub mod Damage
pub mod Marks
pub mod Runs
pub mod Tally
pub mod Grades
pub mod Figures
pub mod After
