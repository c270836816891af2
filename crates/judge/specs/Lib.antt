pub mod Difference
pub mod Sequence
pub mod Clock
pub mod Claims
pub mod Wrap
pub mod Figures
