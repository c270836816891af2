-- A run in which the initiator asks twice before any accept, and the first accept answers the older ask. Nothing can be handed
-- over then; the next accept answers the newer ask, and both ends come Up in that connection.
use Rattle.std.specs.Prelude.{ℕ, ◌+◌, ◌-◌, ◌^◌, List, [], ◌∷◌, ◌++◌, ◌≡◌}
use Rattle.rules.specs.declared.state.Life.TheVariants.{Up}
use Rattle.pair.specs.World.{Letter, World}
use Rattle.pair.specs.Channel.{MayHandOver}
use Rattle.pair.specs.Run.{Beginning, Lawful}
use Rattle.rules.specs.declared.state.Role.TheVariants.{Initiator, Called}
use Rattle.witness.specs.Ends.{settings, bare, estimate, train}
use Rattle.rules.specs.Outputs.Output.{ask, accept, send, datum as give, up}
use Rattle.witness.specs.PairTable.{made, beginning, letter, of, tick, connect, confirm, disconnect, user, comes, Row, reached, Happens}
use Rattle.witness.specs.PairTable.Row.{left, right}

abbrev pub start : Beginning
start = beginning (made Initiator settings 100) (made Called settings 40)

abbrev pub l : ℕ → ℕ
l time = time + 100

abbrev pub r : ℕ → ℕ
r time = time + 40

abbrev pub l0 : Letter
l0 = letter 2 0 1_003 0 (bare 1 0 (l 1_003) 0 0)

abbrev pub r0 : Letter
r0 = letter 2 0 1_006 0 (bare 2 0 (r 1_006) (l 1_003) (r 1_006))

abbrev pub l1 : Letter
l1 = letter 2 1 1_007 1 (bare 3 1 (l 1_007) (r 1_006) (l 1_007))

abbrev pub r1 : Letter
r1 = letter 2 1 1_008 1 (estimate 1 (r 1_008) (l 1_007) (r 1_008) (2 ^ 32 - 61) (2 ^ 32 - 59))

abbrev pub l2 : Letter
l2 = letter 2 2 1_009 2 (bare 5 2 (l 1_009) (r 1_008) (l 1_009))

abbrev pub l3 : Letter
l3 = letter 2 3 1_011 3 (train 3 (l 1_011) (r 1_008) (l 1_009) (1 ∷ []))

-- the first ask comes to nothing; C ticks after it there is another, and then an accept of the first
abbrev pub asking_twice : List Row
asking_twice =
    left 0 tick 0 (ask ∷ [])
    ∷ left 10 disconnect 0 []
    ∷ left 989 tick 0 []
    ∷ left 1 tick 0 (ask ∷ [])
    ∷ right 1 (connect 1) 0 (accept ∷ [])
    ∷ left 2 confirm 0 (send l0.bytes ∷ [])
    ∷ []

-- an accept of the second
abbrev pub coming_together : List Row
coming_together =
    right 2 (connect 2) 0 (accept ∷ [])
    ∷ right 1 (comes l0) 0 (send r0.bytes ∷ [])
    ∷ left 1 (comes r0) 0 (send l1.bytes ∷ [])
    ∷ right 1 (comes l1) 0 (send r1.bytes ∷ [])
    ∷ left 1 (comes r1) 0 (send l2.bytes ∷ up ∷ [])
    ∷ right 1 (comes l2) 0 (up ∷ [])
    ∷ left 1 (user (1 ∷ [])) 0 (send l3.bytes ∷ [])
    ∷ right 1 (comes l3) 0 (give (1 ∷ []) ∷ [])
    ∷ []

abbrev pub asking : List Row
asking = asking_twice ++ coming_together

abbrev pub AskingHappens : Type 0
AskingHappens = Happens start asking

-- after the first accept
abbrev pub apart : World
apart = reached start asking_twice

pub record OlderAskAnswered : Type 0 where
  pub asks : apart.asks ≡ 2
  pub answered : apart.answered ≡ 1 ∷ []
  pub left_in : apart.left.connection ≡ 2
  pub right_in : apart.right.connection ≡ 1
  -- the message of the newer connection stands in the log, and the channel may not hand it over
  pub sent : apart.left.log ≡ l0 ∷ []
  pub not_over : MayHandOver apart.time apart.right apart.left l0 → ⊥
  -- and no accept may answer the older ask again
  pub not_twice : Lawful apart apart.right apart.left (connect 1) → ⊥

-- after the whole run
pub record NewerAskAnswered : Type 0 where
  pub answered : (reached start asking).answered ≡ 2 ∷ 1 ∷ []
  pub left_up : (reached start asking).left.end.life ≡ Up
  pub right_up : (reached start asking).right.end.life ≡ Up
  pub received : (reached start asking).right.received ≡ of 2 (1 ∷ []) ∷ []
