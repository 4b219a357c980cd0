pub mod Revision
pub mod Message
pub mod Draft
pub mod History
pub mod Promises
pub mod Working
