-- What a request keeps or moves: what was answered before it, and the statements that compare.
pub mod Before
pub mod R2
pub mod R4
pub mod R5
pub mod R7
