-- What holds of two ends and a bad channel, and what that is proved with.

-- numbers that wrap, against numbers that do not
pub mod Modular
-- what holds of all that a list holds
pub mod Among
-- lists with some left out
pub mod Picked
-- the log with every letter read
pub mod Notes
-- what is looked at of a side, in parts that change together
pub mod View
-- all that one event can make of a side
pub mod Change
-- what the channel allows of the message that comes
pub mod Carried
-- kept by every change: whatever is sent is read as what was said
pub mod Readable
-- kept by every change, but no clocks: numbers, places and deliveries
pub mod Order
-- kept by every change: stamps, offsets and ages
pub mod Clocks
-- kept by every change: the way of train data from user to user
pub mod Users
-- kept by every change: nothing is sent in connection 0
pub mod Joined
-- kept by every change: the names of connections
pub mod Names
-- every event makes such changes
pub mod Walk
-- each side is a run of one end
pub mod Sides
-- so all of this holds after every run
pub mod Runs
-- what was received was picked from what was handed in
pub mod EndToEnd
-- what leads to the answer "late"
pub mod Late
-- the claims of specs/
pub mod Claims
