-- the numbers that the installer sets, what an end holds, and how it begins
pub mod Settings
pub mod State
pub mod Make
-- the answers, and what each leaves
pub mod Answers
-- deciding: what an event comes to, by tests alone
pub mod Living
pub mod Starting
pub mod Hearing
pub mod Speaking
pub mod Decide
-- performing: what follows from an act, without tests
pub mod Line
pub mod Ends
pub mod Connecting
pub mod Exchanging
pub mod Talking
pub mod Perform
-- placing: what becomes of bytes; and one event whole
pub mod Place
pub mod Step
pub mod Outputs
pub mod Given
pub mod Leaves
-- what is claimed of one event
pub mod Claims
