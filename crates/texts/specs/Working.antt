-- How the code works, and what computations unfold: a reader of the promises needs none of this.
pub mod Writing
pub mod Computing
