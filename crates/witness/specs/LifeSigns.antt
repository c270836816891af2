-- Kind 6 leaves, as `SpeaksWhileUp` asks: a life sign, user data at once, and user data from the queue.
use Rattle.std.specs.Prelude.{true, false, List, [], ◌∷◌, ◌≡◌}
use Rattle.rules.specs.declared.state.Life.TheVariants.{Up}
use Rattle.run.specs.Run.{Call, after}
use Rattle.history.specs.Seen.{seen, seen_of}
use Rattle.history.specs.LifeSigns.{speaks, kind6_since}
use Rattle.witness.specs.Ends.{called, tick, user}
use Rattle.witness.specs.Table.{Row, calls_in, ran, left, next}
use Rattle.witness.specs.Called.{answering, until_held}

abbrev pub Speaks : List Row → Call → Type 0
Speaks xs c =
    (speaks (seen_of (next called xs c)) ≡ true)
    × (((left called xs).end.life ≡ Up) × ((after called (c ∷ calls_in xs)).end.life ≡ Up))

-- S ticks after coming Up; at once; and what waited
abbrev pub AllSpeak : Type 0
AllSpeak = Speaks answering (tick 166) × Speaks answering (user 67 (5 ∷ [])) × Speaks until_held (tick 170)

-- none has left since coming Up, and the end does not hold that one has
abbrev pub NoneHasLeft : Type 0
NoneHasLeft = (kind6_since (seen (ran called answering)) ≡ 0) × ((left called answering).end.line.busy ≡ false)

-- one has left since the last tick, and another before it
abbrev pub OneHasLeft : Type 0
OneHasLeft =
    (kind6_since (seen (ran called until_held)) ≡ 1) × ((left called until_held).end.line.busy ≡ true)
