-- How the code and the proofs work: a reader of the promises needs none of this.
pub mod Places
pub mod Entering
pub mod Parts
pub mod Proper
pub mod Taken
