-- How the code works: a reader of the promises needs none of this.
pub mod Search
pub mod Paying
pub mod Listing
pub mod Quick
pub mod Found
pub mod Entering
pub mod Upto
pub mod Messages
pub mod Winners
