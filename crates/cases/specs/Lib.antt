pub mod Cases
pub mod Kind
