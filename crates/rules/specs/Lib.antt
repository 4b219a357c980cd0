pub mod Rules
pub mod Verdicts
pub mod AllBroken
pub mod Checked
pub mod Requests
pub mod Working
pub mod Tables
