-- What a request keeps or moves: what was answered before it, and the statements that compare.
pub mod R7
