-- Proofs that belong to no one function.

-- the laws of the one difference, over its width
pub mod Difference
-- classes depend on differences alone
pub mod Wrap
-- the fifteen figures
pub mod Figures
