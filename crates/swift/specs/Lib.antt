pub mod Lines
pub mod Promises
pub mod Working
pub mod Tables
