pub mod Ring
pub mod Claims
