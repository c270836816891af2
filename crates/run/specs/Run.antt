-- A run of one end: it is made, and then anything happens, in any order, at any readings, with any bytes.
use Rattle.std.specs.Prelude.{ℕ, true, List, [], ◌∷◌, ◌≡◌, length}
use Rattle.judge.specs.declared.clock.Reading.{Reading}
use Rattle.queue.specs.Ring.{size}
use Rattle.rules.specs.Settings.{in_range_of}
use Rattle.rules.specs.declared.act.Event.{Event}
use Rattle.rules.specs.declared.settings.Settings.{Settings}
use Rattle.rules.specs.declared.state.Role.{Role}
use Rattle.rules.specs.declared.state.End.{End}
use Rattle.rules.specs.Make.{fresh_end}
use Rattle.rules.specs.Step.{Result, stepped}

-- what happens to an end: an event, the reading of its clock, the bytes that came with it, and the output that is lent
pub record Call : Type 0 where
  pub event : Event
  pub at : Reading
  pub given : List ℕ
  pub out : List ℕ

-- an end and the bytes of its queue, which are kept for it between events
pub record Kept : Type 0 where
  pub end : End
  pub queue : List ℕ

-- how an end is made
pub record Making : Type 0 where
  pub role : Role
  pub at : Reading
  pub settings : Settings
  pub queue : List ℕ

-- `make` takes the settings, and the queue has its length; its bytes may be any
abbrev pub Sound : Making → Type 0
Sound m = (in_range_of m.settings ≡ true) × (length m.queue ≡ size)

abbrev pub begun : Making → Kept
begun m = record { end = fresh_end m.role m.at m.settings; queue = m.queue }

-- what one call comes to, by the rules
abbrev pub came_to : Kept → Call → Result
came_to k c = stepped k.end c.event c.at c.given c.out k.queue

-- one event of a run: what stood before it, what happened, and what it came to
pub record Entry : Type 0 where
  pub before : Kept
  pub call : Call
  pub result : Result

abbrev pub kept_in : Result → Kept
kept_in r = record { end = r.outcome.end; queue = r.queue }

-- the end after some calls, the newest of which stands first
unfoldable pub after : Making → List Call → Kept
after m [] = begun m
after m (c ∷ cs) = kept_in (came_to (after m cs) c)

abbrev pub entry_of : Making → List Call → Call → Entry
entry_of m cs c = record { before = after m cs; call = c; result = came_to (after m cs) c }

-- all that happened, the newest first
unfoldable pub history : Making → List Call → List Entry
history m [] = []
history m (c ∷ cs) = entry_of m cs c ∷ history m cs
