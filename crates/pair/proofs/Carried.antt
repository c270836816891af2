-- What the channel allows of the message that comes, while an end deals with it.
use Prim.Native.Nat.{ℕ, ◌+◌, ◌^◌, ◌≤◌, ◌<◌}
use native.Mathlib.Omega.{arith}
use mathlib.Core.List.{List}
use mathlib.Core.Path.{◌≡◌}
use Rattle.wire.specs.declared.message.Header.{Header}
use Rattle.rules.specs.declared.act.Event.TheVariants.{Message}
use Rattle.pair.specs.Among.{Among}
use Rattle.pair.specs.World.{Letter, Side}
use Rattle.pair.specs.Channel.{MayHandOver}
use Rattle.pair.specs.Happening.{Happening}
use Rattle.pair.proofs.Notes.{Note, note_of, notes_of, note_among}
use Rattle.pair.proofs.View.{View, view_of}
use Rattle.pair.proofs.Change.{Change, heard}
use Rattle.pair.proofs.Change.Change.{falls, gauges, lives, serves, sends, hears, delivers}

-- the channel's clauses, as far as they are needed: that a message is not too far ahead is not
abbrev pub Carried : ℕ → View → List Note → Letter → Type 0
Carried time x log l =
    record {
      was_sent : Among (note_of l) log;
      same_connection : l.connection ≡ x.connection;
      soon : time < l.time + 2 ^ 31;
      not_far_behind : x.count.accepted ≤ l.index + 1 + 32_768;
    }

abbrev pub MayCome : ℕ → Happening → View → List Note → Type 0
MayCome time c x log = c.event ≡ Message → Carried time x log c.letter

pub may_come : (time : ℕ) (to from : Side) (c : Happening) → (c.event ≡ Message → MayHandOver time to from c.letter)
    → MayCome time c (view_of to) (notes_of from.log)
may_come time to from c may comes =
    let m = may comes in
    record {
      was_sent = note_among from.log c.letter m.was_sent;
      same_connection = m.same_connection;
      soon = m.soon;
      not_far_behind = m.not_far_behind;
    }

module _ (time : ℕ) (c : Happening) (x : View) (log : List Note) (may : MayCome time c x log) where
  -- once it is accepted it is itself the last
  accepted : (h : Header) → MayCome time c (heard time c h x) log
  accepted h comes =
      let m = may comes in
      record { was_sent = m.was_sent; same_connection = m.same_connection; soon = m.soon; not_far_behind = omega arith }

  pub carried_kept : (y : View) → Change time c x y → MayCome time c y log
  carried_kept y falls = may
  carried_kept y (gauges pair none) = may
  carried_kept y (lives life k) = may
  carried_kept y (serves user k) = may
  carried_kept y (sends n user k t) = may
  carried_kept y (hears h body k) = accepted h
  carried_kept y (delivers h body k up six young) = accepted h
