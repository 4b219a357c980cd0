pub mod Register
pub mod Pool
pub mod Working
pub mod Tables
