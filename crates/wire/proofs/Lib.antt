-- The theorems of the line, and the laws that its code is proved with.

-- choices by a test, and tests of code turned into those of definitions
pub mod Tests
-- tables: what holds of each row, and of none, holds of what is looked up
pub mod Table
-- which train data can be carried
pub mod Carrying
-- writing over the front of a list, and into a part of it
pub mod Over
-- numbers and their bytes, over the number of bytes
pub mod Digits
-- the header, written and read
pub mod Fields
-- what holds of bytes that read as a message
pub mod Parsing
-- reading undoes writing, and writing undoes reading
pub mod Inverse
-- the claims of specs/Claims.antt
pub mod Claims
