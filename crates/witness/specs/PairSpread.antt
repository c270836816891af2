-- The worked clock start of docs/RULES.md, between two ends: the spreads are 9 and 7. Limits of 9 and 7 let both ends come Up; with
-- either limit one less, the end whose limit it is answers 8.
use Rattle.std.specs.Prelude.{ℕ, List, [], ◌∷◌, ◌++◌, ◌≡◌}
use Rattle.rules.specs.declared.state.Life.TheVariants.{Idle, Up}
use Rattle.pair.specs.World.{Letter}
use Rattle.pair.specs.Run.{Beginning}
use Rattle.pair.specs.Age.{measured_spread}
use Rattle.rules.specs.declared.state.Role.TheVariants.{Initiator, Called}
use Rattle.witness.specs.Ends.{bare, estimate}
use Rattle.rules.specs.Outputs.Output.{ask, accept, send, up, release}
use Rattle.witness.specs.PairTable.{made, beginning, letter, tick, connect, confirm, comes, Row, reached, Happens}
use Rattle.witness.specs.PairTable.Row.{left, right}
use Rattle.witness.specs.PairEdges.{within}

-- the initiator's clock is 998 ticks ahead of the called end's; their W are these
abbrev pub worked : ℕ → ℕ → Beginning
worked left_spread right_spread = beginning (made Initiator (within left_spread) 5_000) (made Called (within right_spread) 4_002)

abbrev pub l0 : Letter
l0 = letter 1 0 0 0 (bare 1 0 5_000 0 0)

abbrev pub r0 : Letter
r0 = letter 1 0 4 0 (bare 2 0 4_006 5_000 4_006)

abbrev pub l1 : Letter
l1 = letter 1 1 9 1 (bare 3 1 5_009 4_006 5_009)

abbrev pub r1 : Letter
r1 = letter 1 1 11 1 (estimate 1 4_013 5_009 4_013 4_294_966_293 4_294_966_300)

abbrev pub l2 : Letter
l2 = letter 1 2 13 2 (bare 5 2 5_013 4_013 5_013)

abbrev pub opening : List Row
opening =
    left 0 tick 0 (ask ∷ [])
    ∷ right 0 (connect 1) 0 (accept ∷ [])
    ∷ left 0 confirm 0 (send l0.bytes ∷ [])
    ∷ right 4 (comes l0) 0 (send r0.bytes ∷ [])
    ∷ []

abbrev pub measured : List Row
measured = left 5 (comes r0) 0 (send l1.bytes ∷ []) ∷ []

abbrev pub settled : List Row
settled =
    right 2 (comes l1) 0 (send r1.bytes ∷ [])
    ∷ left 2 (comes r1) 0 (send l2.bytes ∷ up ∷ [])
    ∷ right 2 (comes l2) 0 (up ∷ [])
    ∷ []

abbrev pub whole_start : List Row
whole_start = opening ++ (measured ++ settled)

-- both limits are reached, and both ends come Up
pub record JustNarrow : Type 0 where
  pub happens : Happens (worked 9 7) whole_start
  pub left_spread : measured_spread (reached (worked 9 7) whole_start).left ≡ 9
  pub right_spread : measured_spread (reached (worked 9 7) whole_start).right ≡ 7
  pub left_up : (reached (worked 9 7) whole_start).left.end.life ≡ Up
  pub right_up : (reached (worked 9 7) whole_start).right.end.life ≡ Up

-- the initiator's limit is 8: it refuses what it accepted above
abbrev pub left_refuses : List Row
left_refuses = opening ++ (left 5 (comes r0) 8 (release ∷ []) ∷ [])

-- the called end's is 6
abbrev pub right_refuses : List Row
right_refuses = opening ++ (measured ++ (right 2 (comes l1) 8 (release ∷ []) ∷ []))

pub record JustTooWide : Type 0 where
  pub left : Happens (worked 8 7) left_refuses
  pub right : Happens (worked 9 6) right_refuses
  pub left_idle : (reached (worked 8 7) left_refuses).left.end.life ≡ Idle
  pub right_idle : (reached (worked 9 6) right_refuses).right.end.life ≡ Idle
