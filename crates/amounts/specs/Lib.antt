pub mod Amount
pub mod Charge
pub mod Part
pub mod Shares
pub mod Tables
