pub mod Bytes
pub mod Table
pub mod Message
pub mod Writing
pub mod Claims
