-- How the code works: a reader of the promises needs none of this.
pub mod Cells
pub mod Facts
pub mod Entries
pub mod Computing
