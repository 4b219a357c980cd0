pub mod Pooling
pub mod Registers
pub mod Outputs
pub mod Promises
