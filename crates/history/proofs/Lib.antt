-- Theorems over every run of one end, and what they are proved with.

-- what one event shows of an end, as far as failures, reports and kind 6 go
pub mod Shown
-- every event shows it, whatever its act
pub mod Walk
-- up and down, data and error reports
pub mod Reports
-- the failure count
pub mod Failures
-- release
pub mod Release
-- kind 6, and the mark that one has gone
pub mod LifeSigns
-- the numbers of messages
pub mod Numbering
-- the stamps to echo are those of the last message accepted; an Idle end holds nothing
pub mod Echoes
-- the user's data, from the handing in to the sending
pub mod Sending
-- an event that is taken reaches its rule
pub mod Reached
-- what must be delivered, and what may be
pub mod Delivery
-- what one event can do to the times that an end holds
pub mod Fates
-- how long a phase lasts in true time
pub mod Timed
-- the silence that ends a connection
pub mod Silence
-- the wait that ends a start, and the tick that makes an Idle initiator ask
pub mod Waiting
-- how soon an Idle initiator asks, in true time
pub mod Asking
