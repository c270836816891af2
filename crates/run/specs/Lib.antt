pub mod Run
pub mod Events
