pub mod Lines
pub mod Report
pub mod Promises
pub mod Requests
pub mod Working
