pub mod Sheet
pub mod Lists
pub mod Forms
pub mod Dates
pub mod Working
pub mod Tables
