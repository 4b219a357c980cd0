pub mod Decimals
pub mod Pages
pub mod Writing
pub mod Telling
pub mod Ending
pub mod Examples
