pub mod Hex
pub mod Row
pub mod Text
