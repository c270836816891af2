-- What one end holds, and what its lives are.
use Rattle.std.specs.Prelude.{ℕ, Bool, true, false}
use Rattle.judge.specs.declared.clock.Reading.{Reading}
use Rattle.judge.specs.declared.clock.Offset.{Offset}
use Rattle.judge.specs.declared.clock.Offsets.{Offsets}
use Rattle.wire.specs.Message.{kind_of}
use Rattle.wire.specs.declared.message.Body.TheVariants.{OffsetStart, OffsetAnsw1, OffsetAnsw2, OffsetEnd, LifeSign}
use Rattle.rules.specs.declared.state.Life.{Life}
use Rattle.rules.specs.declared.state.Life.TheVariants.{Idle, Calling, Opening, Settling, Greeted, Answering, Closing, Up}
use Rattle.rules.specs.declared.state.Phase.{Phase}
use Rattle.rules.specs.declared.state.Phase.TheVariants.{Idle as resting, Starting as starting, Up as up}
use Rattle.rules.specs.declared.state.Line.{Line}

-- ---- what is held of a connection

abbrev pub zero_reading : Reading
zero_reading = record { 0 = 0 }

abbrev pub zero_offset : Offset
zero_offset = record { 0 = 0 }

abbrev pub zero_offsets : Offsets
zero_offsets = record { minimum = zero_offset; maximum = zero_offset; since = zero_reading }

-- all zeros but for when the wait began and the number last accepted
abbrev pub line_from : Reading → ℕ → Line
line_from began last =
    record {
      offsets = zero_offsets;
      began = began;
      times = record { said = zero_reading; heard = zero_reading };
      echo = record { peer = zero_reading; own = zero_reading };
      numbers = record { next = 0; last = last };
      failures = 0;
      busy = false;
    }

-- what an Idle end holds of a connection
abbrev pub blank_line : Line
blank_line = line_from zero_reading 0

-- a connection that begins at a reading: "last" is 65,535, and the wait begins
abbrev pub new_line : Reading → Line
new_line at = line_from at 65_535

-- ---- lives

-- every life but Idle and Up is a starting one
abbrev pub phase_of : Life → Phase
phase_of Idle = resting
phase_of Calling = starting
phase_of Opening = starting
phase_of Settling = starting
phase_of Greeted = starting
phase_of Answering = starting
phase_of Closing = starting
phase_of Up = up

abbrev pub is_up_in : Phase → Bool
is_up_in resting = false
is_up_in starting = false
is_up_in up = true

abbrev pub is_up : Life → Bool
is_up life = is_up_in (phase_of life)

-- the kind of message that a life waits for; 0 is none
abbrev pub awaited_by : Life → ℕ
awaited_by Idle = 0
awaited_by Calling = 0
awaited_by Opening = kind_of OffsetAnsw1
awaited_by Settling = 4
awaited_by Greeted = kind_of OffsetStart
awaited_by Answering = kind_of OffsetAnsw2
awaited_by Closing = kind_of OffsetEnd
awaited_by Up = kind_of LifeSign
