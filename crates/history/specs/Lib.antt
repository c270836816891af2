-- what those outside see of a run, and what is counted from it
pub mod Seen
pub mod Failures
pub mod Reports
pub mod Release
pub mod LifeSigns
-- what leaves: its numbers, and the user's data
pub mod Numbering
pub mod Echoes
pub mod Sending
-- what is delivered
pub mod Delivery
-- how long things last, in true time
pub mod Timed
pub mod Silence
pub mod Waiting
