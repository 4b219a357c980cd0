-- What is computed of the definitions: tables of document 01 and of the requests.
pub mod Examples
pub mod Pinned
pub mod AllBrokenTable
pub mod R1
pub mod R2
pub mod R4
pub mod R5
pub mod R7
