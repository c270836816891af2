-- The theorems of one event, and what they are proved with.

-- which life is which
pub mod Lives
-- for each act the facts that lead to it
pub mod Grounds
-- the one walk: from each act to every event
pub mod Acts
-- which answers, and which lives, an act's grounds allow
pub mod Answered
-- what waits once user data are held, and once the oldest go
pub mod Queued
-- every message that can be carried has room in the least output
pub mod Fits
-- what is to be placed can be placed
pub mod Readiness
-- each answer is given exactly when the table says
pub mod Given
-- and where it says so, it is given
pub mod Forced
-- what each answer leaves
pub mod Leaves
-- the claims of specs/Claims.antt
pub mod Claims
