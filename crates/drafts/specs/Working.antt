-- How the code and the proofs work: a reader of the promises needs none of this.
pub mod Steps
pub mod Computing
