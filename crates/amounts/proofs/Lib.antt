pub mod Ranges
pub mod Charging
pub mod Parting
pub mod Sharing
