-- Theorems of one event in a run, and what they are proved with.

-- laws of tests and choices
pub mod Choices
-- laws of the words for one event
pub mod Events
-- from each act to every call
pub mod Calls
-- what an event that is only noted was
pub mod Noted
-- what comes in with an event, and with which answers nothing does
pub mod Brought
-- what may be delivered is ahead, and within the limit
pub mod Reach
-- an end's role and settings never change, and its queue keeps its length
pub mod Lasting
