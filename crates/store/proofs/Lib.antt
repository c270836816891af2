-- The laws that the functions here are proved with.

-- the slots of a queue, one after the other
pub mod Chunks
