pub mod Quoted
pub mod Texts
pub mod Numbers
pub mod Buffers
pub mod Answers
pub mod Refusals
pub mod Working
