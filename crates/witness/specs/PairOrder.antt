-- The long run meets the claims of order: data are delivered both ways, in two connections, after losses, repeats and overtaking.
use Rattle.std.specs.Prelude.{List, [], ◌∷◌, ◌≡◌, ℕ}
use Rattle.pair.specs.World.{Letter, Delivery, World}
use Rattle.pair.specs.Order.{InPlace, InOrder, Once, RightlyDelivered}
use Rattle.witness.specs.PairTable.{delivery, reached}
use Rattle.witness.specs.PairJourney.{start, journey, l0, l1, l2, l3, l4, l5, l6, l7, l8, l9, l10, r0, r1, r2, r3, r4, r5, r6, r7, r8, r9}

-- after the whole run
abbrev pub ended : World
ended = reached start journey

-- ---- sent

abbrev pub all_by_left : List Letter
all_by_left = l10 ∷ l9 ∷ l8 ∷ l7 ∷ l6 ∷ l5 ∷ l4 ∷ l3 ∷ l2 ∷ l1 ∷ l0 ∷ []

abbrev pub all_by_right : List Letter
all_by_right = r9 ∷ r8 ∷ r7 ∷ r6 ∷ r5 ∷ r4 ∷ r3 ∷ r2 ∷ r1 ∷ r0 ∷ []

-- these are all that each side ever sent, and each has its place: `PlacesAreTheOrder`
pub record SentInAll : Type 0 where
  pub left : ended.left.log ≡ all_by_left
  pub right : ended.right.log ≡ all_by_right
  pub left_in_place : InPlace ended.left.log
  pub right_in_place : InPlace ended.right.log

-- ---- delivered

abbrev pub all_to_left : List Delivery
all_to_left = delivery 2 320 r9 ∷ delivery 1 175 r6 ∷ delivery 1 165 r5 ∷ delivery 1 45 r4 ∷ delivery 1 40 r2 ∷ []

abbrev pub all_to_right : List Delivery
all_to_right = delivery 2 310 l10 ∷ delivery 1 225 l5 ∷ delivery 1 160 l4 ∷ delivery 1 30 l3 ∷ []

-- these are all that each side ever delivered: not r3, which was overtaken, nor l6, which was late, and nothing twice
pub record DeliveredInAll : Type 0 where
  pub left : ended.left.delivered ≡ all_to_left
  pub right : ended.right.delivered ≡ all_to_right

abbrev pub places_of : List Delivery → List ℕ
places_of [] = []
places_of (d ∷ ds) = d.letter.place ∷ places_of ds

abbrev pub numbers_of : List Delivery → List ℕ
numbers_of [] = []
numbers_of (d ∷ ds) = d.letter.index ∷ numbers_of ds

-- their places rise from the first connection to the second, though their numbers begin again: `DeliveredInOrder`, `AtMostOnce`
pub record PlacesRise : Type 0 where
  pub left_places : places_of ended.left.delivered ≡ 9 ∷ 6 ∷ 5 ∷ 4 ∷ 2 ∷ []
  pub left_numbers : numbers_of ended.left.delivered ≡ 2 ∷ 6 ∷ 5 ∷ 4 ∷ 2 ∷ []
  pub right_places : places_of ended.right.delivered ≡ 10 ∷ 5 ∷ 4 ∷ 3 ∷ []
  pub right_numbers : numbers_of ended.right.delivered ≡ 3 ∷ 5 ∷ 4 ∷ 3 ∷ []
  pub left_in_order : InOrder ended.left.delivered
  pub right_in_order : InOrder ended.right.delivered
  pub left_once : Once ended.left.delivered
  pub right_once : Once ended.right.delivered

-- one of each connection is rightly delivered: `OnlyOfThisConnection`
pub record RightInBoth : Type 0 where
  pub first : RightlyDelivered ended.left (delivery 1 30 l3)
  pub second : RightlyDelivered ended.left (delivery 2 310 l10)
  pub other : RightlyDelivered ended.right (delivery 2 320 r9)
