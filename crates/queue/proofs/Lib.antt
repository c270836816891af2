-- The theorems of the queue, and the laws that its code is proved with.

-- what a store into a slot changes, and what it leaves
pub mod Slots
-- which data wait, in which order
pub mod Order
-- the claims of specs/Claims.antt
pub mod Claims
