pub mod Numbers
pub mod Promises
pub mod AllBroken
pub mod Origins
pub mod Entry
pub mod Version
