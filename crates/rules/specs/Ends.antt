-- The end afterwards, and what is reported.
use Rattle.std.specs.Prelude.{Bool, true, false, ◌&&◌, ◌||◌}
use Rattle.judge.specs.declared.clock.Reading.{Reading}
use Rattle.queue.specs.Ring.{empty_ring}
use Rattle.queue.specs.declared.Ring.{Ring}
use Rattle.rules.specs.State.{blank_line, new_line, is_up}
use Rattle.rules.specs.Make.{asks_at_once}
use Rattle.rules.specs.declared.state.Life.{Life}
use Rattle.rules.specs.declared.state.Life.TheVariants.{Idle, Calling}
use Rattle.rules.specs.declared.state.Asking.{Asking}
use Rattle.rules.specs.declared.state.Line.{Line}
use Rattle.rules.specs.declared.state.End.{End}
use Rattle.rules.specs.declared.effect.Flags.{Flags}

-- ---- ends

abbrev pub was_up : End → Bool
was_up e = is_up e.life

-- role and settings never change; an end that goes on is put together here alone
abbrev pub end_of : End → Reading → Asking → Life → Line → Ring → End
end_of e at asking life line ring =
    record { settings = e.settings; line = line; reading = at; asking = asking; ring = ring; role = e.role; life = life }

-- another life, line and queue
abbrev pub moved_end : End → Reading → Life → Line → Ring → End
moved_end e at life line ring = end_of e at e.asking life line ring

-- the new reading, and nothing else
abbrev pub noted_end : End → Reading → End
noted_end e at = moved_end e at e.life e.line e.ring

-- a new connection is asked for: that ends asking at once
abbrev pub asked_end : End → Reading → End
asked_end e at = end_of e at (record { when = at; at_once = false }) Calling (new_line at) empty_ring

-- down: Idle with nothing of the connection; an initiator that was Up may ask at once
abbrev pub fallen_end : End → Reading → End
fallen_end e at =
    end_of e at
    (record { when = e.asking.when; at_once = e.asking.at_once || (was_up e && asks_at_once e.role) })
    Idle blank_line empty_ring

-- ---- reports

abbrev pub no_flags : Flags
no_flags = record { ask = false; accept = false; up = false; error = false; release = false; down = false }

abbrev pub error_flag : Bool → Flags
error_flag error = record { ask = false; accept = false; up = false; error = error; release = false; down = false }

abbrev pub up_flag : Flags
up_flag = record { ask = false; accept = false; up = true; error = false; release = false; down = false }
