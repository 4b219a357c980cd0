-- How the code works: a reader of the promises needs none of this.
pub mod Tests
pub mod Bits
pub mod Groups
pub mod Computing
