-- An event that is taken reaches its rule.
use Prim.Native.Nat.{ℕ, ◌^◌}
use mathlib.Core.List.{List}
use mathlib.Core.Path.{◌≡◌}
use borrow.Author.Tests.{lt-leb, le-ltb}
use lib.ListN.{length}
use Rattle.judge.specs.Clock.{since_of}
use Rattle.judge.specs.declared.clock.Reading.{Reading}
use Rattle.rules.specs.Decide.{least_room, decide_of, on_event}
use Rattle.rules.specs.declared.act.Event.{Event}
use Rattle.rules.specs.declared.state.End.{End}
use Rattle.history.specs.Delivery.{IsTaken}

pub reached : (e : End) (event : Event) (at : Reading) (given out : List ℕ) → IsTaken e at out
    → decide_of e event at given (length out) ≡ on_event e event at given
unfolding decide_of
reached e event at given out taking =
    rw (le-ltb (length out) least_room taking.room, lt-leb (2 ^ 31) (since_of at e.reading) taking.forth)
