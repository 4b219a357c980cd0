pub mod Cells
pub mod Forms
pub mod Cutting
pub mod Reading
pub mod Writing
