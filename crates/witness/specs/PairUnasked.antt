-- A run with accepts that answer no ask: one before anybody asked, and two that come when the only ask is answered already, at a called
-- end that is Up. Each begins no connection, and nothing is handed over then; what the other end sent meanwhile is lost. Data are
-- delivered before, and again after a new ask and its accept.
use Rattle.std.specs.Prelude.{ℕ, ◌+◌, ◌-◌, ◌^◌, List, [], ◌∷◌, ◌++◌, ◌≡◌}
use Rattle.rules.specs.declared.state.Life.TheVariants.{Greeted, Up}
use Rattle.rules.specs.declared.state.Role.TheVariants.{Initiator, Called}
use Rattle.rules.specs.Outputs.Output.{ask, accept, send, datum as give, up, down}
use Rattle.pair.specs.World.{Letter, World}
use Rattle.pair.specs.Channel.{MayHandOver}
use Rattle.pair.specs.Run.{Beginning, Lawful}
use Rattle.witness.specs.Ends.{settings, bare, estimate, train}
use Rattle.witness.specs.PairTable.{made, beginning, letter, of, tick, connect, stray, confirm, disconnect, user, comes, Row, reached, Happens}
use Rattle.witness.specs.PairTable.Row.{left, right}

abbrev pub start : Beginning
start = beginning (made Initiator settings 100) (made Called settings 40)

abbrev pub l : ℕ → ℕ
l time = time + 100

abbrev pub r : ℕ → ℕ
r time = time + 40

-- ---- what is sent in the first connection

abbrev pub l0 : Letter
l0 = letter 1 0 2 0 (bare 1 0 (l 2) 0 0)

abbrev pub r0 : Letter
r0 = letter 1 0 4 0 (bare 2 0 (r 4) (l 2) (r 4))

abbrev pub l1 : Letter
l1 = letter 1 1 5 1 (bare 3 1 (l 5) (r 4) (l 5))

abbrev pub r1 : Letter
r1 = letter 1 1 6 1 (estimate 1 (r 6) (l 5) (r 6) (2 ^ 32 - 61) (2 ^ 32 - 59))

abbrev pub l2 : Letter
l2 = letter 1 2 7 2 (bare 5 2 (l 7) (r 6) (l 7))

abbrev pub l3 : Letter
l3 = letter 1 3 9 3 (train 3 (l 9) (r 6) (l 7) (1 ∷ []))

abbrev pub r2 : Letter
r2 = letter 1 2 11 2 (train 2 (r 11) (l 9) (r 10) (2 ∷ []))

-- when the called end has left it
abbrev pub l4 : Letter
l4 = letter 1 4 15 4 (train 4 (l 15) (r 6) (l 7) (3 ∷ []))

-- ---- and in the second

abbrev pub l5 : Letter
l5 = letter 2 0 20 5 (bare 1 0 (l 20) 0 0)

abbrev pub r3 : Letter
r3 = letter 2 0 21 3 (bare 2 0 (r 21) (l 20) (r 21))

abbrev pub l6 : Letter
l6 = letter 2 1 22 6 (bare 3 1 (l 22) (r 21) (l 22))

abbrev pub r4 : Letter
r4 = letter 2 1 23 4 (estimate 1 (r 23) (l 22) (r 23) (2 ^ 32 - 61) (2 ^ 32 - 59))

abbrev pub l7 : Letter
l7 = letter 2 2 24 7 (bare 5 2 (l 24) (r 23) (l 24))

abbrev pub l8 : Letter
l8 = letter 2 3 26 8 (train 3 (l 26) (r 23) (l 24) (4 ∷ []))

-- ---- the run, in parts

-- the called end accepts before anybody asked; then the initiator asks
abbrev pub early : List Row
early = right 0 stray 0 (accept ∷ []) ∷ left 1 tick 0 (ask ∷ []) ∷ left 1 confirm 0 (send l0.bytes ∷ []) ∷ []

-- an accept of that ask, and data one way; those the other way are still under way
abbrev pub rising : List Row
rising =
    right 1 (connect 1) 0 (accept ∷ [])
    ∷ right 1 (comes l0) 0 (send r0.bytes ∷ [])
    ∷ left 1 (comes r0) 0 (send l1.bytes ∷ [])
    ∷ right 1 (comes l1) 0 (send r1.bytes ∷ [])
    ∷ left 1 (comes r1) 0 (send l2.bytes ∷ up ∷ [])
    ∷ right 1 (comes l2) 0 (up ∷ [])
    ∷ left 1 (user (1 ∷ [])) 0 (send l3.bytes ∷ [])
    ∷ right 1 (comes l3) 0 (give (1 ∷ []) ∷ [])
    ∷ right 1 (user (2 ∷ [])) 0 (send r2.bytes ∷ [])
    ∷ []

-- the connect indication comes again, twice. The initiator is still Up: it sends data, and gets those that were under way
abbrev pub straying : List Row
straying =
    right 1 stray 0 (accept ∷ down ∷ [])
    ∷ right 1 stray 0 (accept ∷ [])
    ∷ left 1 tick 0 []
    ∷ left 1 (user (3 ∷ [])) 0 (send l4.bytes ∷ [])
    ∷ left 1 (comes r2) 0 (give (2 ∷ []) ∷ [])
    ∷ []

-- a new ask, its accept, and data
abbrev pub returning : List Row
returning =
    left 1 disconnect 0 (down ∷ [])
    ∷ left 1 tick 0 (ask ∷ [])
    ∷ right 1 (connect 2) 0 (accept ∷ [])
    ∷ left 1 confirm 0 (send l5.bytes ∷ [])
    ∷ right 1 (comes l5) 0 (send r3.bytes ∷ [])
    ∷ left 1 (comes r3) 0 (send l6.bytes ∷ [])
    ∷ right 1 (comes l6) 0 (send r4.bytes ∷ [])
    ∷ left 1 (comes r4) 0 (send l7.bytes ∷ up ∷ [])
    ∷ right 1 (comes l7) 0 (up ∷ [])
    ∷ left 1 (user (4 ∷ [])) 0 (send l8.bytes ∷ [])
    ∷ right 1 (comes l8) 0 (give (4 ∷ []) ∷ [])
    ∷ []

abbrev pub until_up : List Row
until_up = early ++ rising

abbrev pub until_strayed : List Row
until_strayed = until_up ++ straying

abbrev pub unasked : List Row
unasked = until_strayed ++ returning

abbrev pub UnaskedHappens : Type 0
UnaskedHappens = Happens start unasked

-- ---- what holds in it

-- an end that accepted without an ask is in connection 0, and nothing may be handed over to it: `NothingComesUnasked`
pub record InNone (w : World) : Type 0 where
  pub greeted : w.right.end.life ≡ Greeted
  pub in0 : w.right.connection ≡ 0
  pub nothing : (x : Letter) → MayHandOver w.time w.right w.left x → ⊥

-- though the initiator has sent something, in its own connection
pub record AcceptedEarly : Type 0 where
  pub answered : (reached start early).answered ≡ []
  pub sent : (reached start early).left.log ≡ l0 ∷ []
  pub in_none : InNone (reached start early)

-- both are Up, and the only ask is answered: whatever connect indication comes now answers none
pub record AllAnswered : Type 0 where
  pub left_up : (reached start until_up).left.end.life ≡ Up
  pub right_up : (reached start until_up).right.end.life ≡ Up
  pub answered : (reached start until_up).answered ≡ 1 ∷ []
  pub none : (n : ℕ) → Lawful (reached start until_up) (reached start until_up).right (reached start until_up).left (connect n) → n ≡ 0

pub record AcceptedAgain : Type 0 where
  pub answered : (reached start until_strayed).answered ≡ 1 ∷ []
  pub left_up : (reached start until_strayed).left.end.life ≡ Up
  pub in_none : InNone (reached start until_strayed)

-- after the whole run: 3 is lost, and nothing comes twice
pub record AcceptedAnew : Type 0 where
  pub answered : (reached start unasked).answered ≡ 2 ∷ 1 ∷ []
  pub left_up : (reached start unasked).left.end.life ≡ Up
  pub right_up : (reached start unasked).right.end.life ≡ Up
  pub handed : (reached start unasked).left.handed ≡ of 2 (4 ∷ []) ∷ of 1 (3 ∷ []) ∷ of 1 (1 ∷ []) ∷ []
  pub received : (reached start unasked).right.received ≡ of 2 (4 ∷ []) ∷ of 1 (1 ∷ []) ∷ []
  pub received_back : (reached start unasked).left.received ≡ of 1 (2 ∷ []) ∷ []
