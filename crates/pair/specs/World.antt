-- Two sides and the time. The ends and the bytes of their queues are real; all else is kept here only to speak of what
-- happened, and no end ever sees it. In every list the newest stands first.
use Rattle.std.specs.Prelude.{ℕ, ◌+◌, ◌-◌, ◌%◌, ◌^◌, List}
use Rattle.judge.specs.declared.clock.Reading.{Reading}
use Rattle.rules.specs.declared.state.End.{End}

-- a message that an end put out
pub record Letter : Type 0 where
  -- the connection that it was sent in
  pub connection : ℕ
  -- how many its sender had sent in that connection before it: its number, counted without wrapping
  pub index : ℕ
  -- the time of the event that sent it
  pub time : ℕ
  -- how many its sender had ever sent before it: its place in the order of sending
  pub place : ℕ
  pub bytes : List ℕ

-- data that a user handed in and the end took, or that a user received, and the connection that this was in
pub record Datum : Type 0 where
  pub connection : ℕ
  pub bytes : List ℕ

-- a data message that an end delivered, the connection that the end was in, and the time
pub record Delivery : Type 0 where
  pub letter : Letter
  pub connection : ℕ
  pub time : ℕ

pub record Side : Type 0 where
  pub end : End
  -- the bytes of its queue
  pub queue : List ℕ
  -- by how many ticks its clock is ahead of the time; the difference of two biases is any whole number
  pub bias : ℕ
  -- the connection that it is in, or was in last; 0 before any, and when it accepted without an ask
  pub connection : ℕ
  -- how many messages it sent in that connection
  pub sent : ℕ
  -- the number of the last message that it accepted in that connection, not wrapped, plus 1; 0 before any
  pub accepted : ℕ
  -- all that it ever sent
  pub log : List Letter
  -- all data that its user ever handed in, and all that its user ever received
  pub handed : List Datum
  pub received : List Datum
  -- all data messages that it ever delivered
  pub delivered : List Delivery

pub record World : Type 0 where
  -- in ticks
  pub time : ℕ
  -- the connections asked for: they are named 1, 2, .. in the order of asking
  pub asks : ℕ
  -- those of them that an accept has answered
  pub answered : List ℕ
  -- the initiator and the called end
  pub left : Side
  pub right : Side

-- the clocks run at one rate, and are read in 32 bits
abbrev pub read_by : ℕ → ℕ → ℕ
read_by bias time = (time + bias) % 2 ^ 32

abbrev pub clock_of : Side → ℕ → Reading
clock_of s time = record { 0 = read_by s.bias time }

-- the ticks from the event that sent a message to a later one
abbrev pub true_age : Letter → ℕ → ℕ
true_age l time = time - l.time
