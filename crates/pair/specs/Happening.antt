-- One event at one side, and what it comes to by the rules.
use Rattle.std.specs.Prelude.{ℕ, cond, List}
use Rattle.rules.specs.Step.{Result}
use Rattle.rules.specs.declared.act.Event.{Event}
use Rattle.run.specs.Run.{Call, Kept, came_to}
use Rattle.run.specs.Events.{is_message}
use Rattle.pair.specs.World.{Letter, Side, clock_of}

-- what happens
pub record Happening : Type 0 where
  pub event : Event
  -- the user's bytes, where data are handed in
  pub given : List ℕ
  -- the message, where one is handed over
  pub letter : Letter
  -- the lent output, of any length
  pub out : List ℕ
  -- the ask that is answered, should the end accept; 0 if none is
  pub ask : ℕ

-- the bytes that come with the event
abbrev pub bytes_beside : Happening → List ℕ
bytes_beside h = cond (is_message h.event) h.letter.bytes h.given

-- to the end of a side it is one call, at the reading of that side's clock
abbrev pub call_at : ℕ → Side → Happening → Call
call_at time s h = record { event = h.event; at = clock_of s time; given = bytes_beside h; out = h.out }

-- what a side really has
abbrev pub kept_of : Side → Kept
kept_of s = record { end = s.end; queue = s.queue }

-- what it comes to: the very rules of one end
abbrev pub result_at : ℕ → Side → Happening → Result
result_at time s h = came_to (kept_of s) (call_at time s h)
