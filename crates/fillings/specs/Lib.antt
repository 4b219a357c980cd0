pub mod Fillings
pub mod Filled
pub mod Working
