-- The laws that the functions here are proved with.

-- numbers of any width, at any place
pub mod Numbers
