-- What is computed of the definitions: tables of document 01 and of the requests.
pub mod Blocks
pub mod Examples
