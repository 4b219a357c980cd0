pub mod Payments
pub mod Leave
pub mod Working
pub mod Tables
