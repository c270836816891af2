-- A run in which both bounds of the age are reached. The initiator's first message takes 20 ticks, and all others of the start
-- none: the initiator's ages are 20 above the true ones, its spread and its W; the called end's are the true ones.
use Rattle.std.specs.Prelude.{ℕ, ◌+◌, ◌-◌, ◌%◌, ◌^◌, List, [], ◌∷◌, ◌++◌, ◌≡◌}
use Rattle.rules.specs.declared.settings.Settings.{Settings}
use Rattle.pair.specs.World.{Letter}
use Rattle.rules.specs.Claims.{answer_of}
use Rattle.pair.specs.Happening.{result_at}
use Rattle.pair.specs.Run.{Beginning}
use Rattle.pair.specs.Age.{shortfall}
use Rattle.rules.specs.declared.state.Role.TheVariants.{Initiator, Called}
use Rattle.witness.specs.Ends.{stamped, bare, estimate, train}
use Rattle.rules.specs.Outputs.Output.{ask, accept, send, datum as give, up, error}
use Rattle.witness.specs.PairTable.{made, beginning, letter, tick, connect, confirm, user, comes, delivery, Row, reached, reached_later, Happens}
use Rattle.witness.specs.PairTable.Row.{left, right}
use Rattle.witness.specs.PairAges.{Aged, ComesLate, DeliveredAt}

-- the settings of the script's example, with another W
abbrev pub within : ℕ → Settings
within w = record { age = 50; spread = w; silence = 300; life_sign = 100; wait = 500; retry = 1_000; jump = 4; errors = 2 }

-- the called end's W is 0; its clock wraps at time 20
abbrev pub sharply : Beginning
sharply = beginning (made Initiator (within 20) 1_000) (made Called (within 0) (2 ^ 32 - 20))

abbrev pub l : ℕ → ℕ
l time = time + 1_000

abbrev pub r : ℕ → ℕ
r time = (time + 4_294_967_276) % 2 ^ 32

-- ---- letters

abbrev pub l0 : Letter
l0 = letter 1 0 0 0 (bare 1 0 (l 0) 0 0)

abbrev pub l1 : Letter
l1 = letter 1 1 20 1 (bare 3 1 (l 20) (r 20) (l 20))

abbrev pub l2 : Letter
l2 = letter 1 2 20 2 (bare 5 2 (l 20) (r 20) (l 20))

abbrev pub l3 : Letter
l3 = letter 1 3 20 3 (train 3 (l 20) (r 20) (l 20) (1 ∷ []))

abbrev pub l4 : Letter
l4 = letter 1 4 101 4 (train 4 (l 101) (r 20) (l 50) (4 ∷ []))

abbrev pub r0 : Letter
r0 = letter 1 0 20 0 (bare 2 0 (r 20) (l 0) (r 20))

-- minimum and maximum are both 0 less 1,020
abbrev pub r1 : Letter
r1 = letter 1 1 20 1 (estimate 1 (r 20) (l 20) (r 20) (2 ^ 32 - 1_020) (2 ^ 32 - 1_020))

abbrev pub r2 : Letter
r2 = letter 1 2 20 2 (train 2 (r 20) (l 20) (r 20) (2 ∷ []))

abbrev pub r3 : Letter
r3 = letter 1 3 70 3 (train 3 (r 70) (l 20) (r 70) (3 ∷ []))

-- ---- the run

-- both come Up, and each sends data
abbrev pub sharp_start : List Row
sharp_start =
    left 0 tick 0 (ask ∷ [])
    ∷ right 0 (connect 1) 0 (accept ∷ [])
    ∷ left 0 confirm 0 (send l0.bytes ∷ [])
    ∷ right 20 (comes l0) 0 (send r0.bytes ∷ [])
    ∷ left 0 (comes r0) 0 (send l1.bytes ∷ [])
    ∷ right 0 (comes l1) 0 (send r1.bytes ∷ [])
    ∷ left 0 (comes r1) 0 (send l2.bytes ∷ up ∷ [])
    ∷ right 0 (comes l2) 0 (up ∷ [])
    ∷ left 0 (user (1 ∷ [])) 0 (send l3.bytes ∷ [])
    ∷ right 0 (user (2 ∷ [])) 0 (send r2.bytes ∷ [])
    ∷ []

-- both are delivered at the very limit; each sends again
abbrev pub at_the_limit : List Row
at_the_limit =
    left 30 (comes r2) 0 (give (2 ∷ []) ∷ [])
    ∷ right 20 (comes l3) 0 (give (1 ∷ []) ∷ [])
    ∷ right 0 tick 0 []
    ∷ right 0 (user (3 ∷ [])) 0 (send r3.bytes ∷ [])
    ∷ []

-- one tick over it both are late
abbrev pub over_the_limit : List Row
over_the_limit =
    left 31 (comes r3) 11 (error ∷ [])
    ∷ left 0 tick 0 []
    ∷ left 0 (user (4 ∷ [])) 0 (send l4.bytes ∷ [])
    ∷ []

abbrev pub until_limit : List Row
until_limit = sharp_start ++ at_the_limit

abbrev pub until_over : List Row
until_over = until_limit ++ over_the_limit

abbrev pub sharp_run : List Row
sharp_run = until_over ++ (right 51 (comes l4) 11 (error ∷ []) ∷ [])

abbrev pub SharpRunHappens : Type 0
SharpRunHappens = Happens sharply sharp_run

-- ---- the bounds are reached

-- the offset minimum of one end is below the true difference of the clocks by the whole spread, that of the other by nothing
abbrev pub ShortfallsAreExtreme : Type 0
ShortfallsAreExtreme =
    let w = reached sharply sharp_start in (shortfall w.left w.right ≡ 20) × (shortfall w.right w.left ≡ 0)

-- truly 30, computed 50 and delivered: above by the whole spread
abbrev pub AgeIsAboveByTheSpread : Type 0
AgeIsAboveByTheSpread =
    let w = reached_later sharply sharp_start 30 in
    Aged w w.left w.right r2 (stamped 2 (r 20) (l 20) (r 20)) 30 50 20
    × (answer_of (result_at w.time w.left (comes r2)) ≡ 0)

-- truly 50, computed 50 and delivered
abbrev pub AgeIsTrue : Type 0
AgeIsTrue =
    let w = reached_later sharply sharp_start 50 in
    Aged w w.right w.left l3 (stamped 3 (l 20) (r 20) (l 20)) 50 50 0
    × (answer_of (result_at w.time w.right (comes l3)) ≡ 0)

-- so nothing less than the age limit bounds the true age of what is delivered
abbrev pub DeliveredAtTheLimit : Type 0
DeliveredAtTheLimit = DeliveredAt (reached sharply sharp_run).right (delivery 1 70 l3) 50

-- truly 31 = 50 - 20 + 1, and late
abbrev pub LateAtThirtyOne : Type 0
LateAtThirtyOne =
    let w = reached_later sharply until_limit 31 in
    ComesLate w w.left w.right r3 (stamped 3 (r 70) (l 20) (r 70)) 31 51 20

-- truly 51, and late
abbrev pub LateAtFiftyOne : Type 0
LateAtFiftyOne =
    let w = reached_later sharply until_over 51 in
    ComesLate w w.right w.left l4 (stamped 4 (l 101) (r 20) (l 50)) 51 51 0
