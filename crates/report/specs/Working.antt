-- How the code works: a reader of the promises needs none of this.
pub mod Page
pub mod Told
