-- The theorems of the script, and the laws that its code is proved with.

-- a record that is not bad is whole, and what follows it does not change it
pub mod Whole
-- turns of playing, and that their number does not matter
pub mod Playing
-- the claims of specs/Claims.antt
pub mod Claims
-- what is printed between two reads, and what is kept
pub mod Feeding
-- the example of the Sunday script
pub mod Example
