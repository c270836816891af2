-- The laws that the functions here are proved with.

-- bytes put into a text, one after the other
pub mod Putting
-- the words of a line, output by output
pub mod Lines
-- what remains of a piece after some turns
pub mod Remaining
-- bytes moved to the front of a buffer
pub mod Moving
