-- The long run meets the claims from user to user: what the users handed in and received, byte for byte.
use Rattle.std.specs.Prelude.{ℕ, List, [], ◌∷◌, ◌≡◌}
use Rattle.rules.specs.declared.effect.Front.TheVariants.{Datum as datum}
use Rattle.pair.specs.Among.{Picked}
use Rattle.pair.specs.World.{Datum, Side, World}
use Rattle.pair.specs.Happening.{Happening, result_at}
use Rattle.pair.specs.Run.{Lawful}
use Rattle.pair.specs.Users.{TheUsers}
use Rattle.witness.specs.PairTable.{of, comes, reached_later}
use Rattle.witness.specs.PairJourney.{start, rising, until_near, l3, l4}
use Rattle.witness.specs.PairOrder.{ended}

-- ---- over the whole run, the newest first

abbrev pub handed_at_left : List Datum
handed_at_left = of 2 (12 ∷ []) ∷ of 1 (11 ∷ []) ∷ of 1 (10 ∷ []) ∷ of 1 (4 ∷ []) ∷ of 1 (1 ∷ 2 ∷ 3 ∷ []) ∷ []

abbrev pub handed_at_right : List Datum
handed_at_right = of 2 (13 ∷ []) ∷ of 1 (5 ∷ []) ∷ of 1 (6 ∷ []) ∷ of 1 (8 ∷ 7 ∷ []) ∷ of 1 (9 ∷ []) ∷ []

-- without 8, 7, which were overtaken
abbrev pub got_at_left : List Datum
got_at_left = of 2 (13 ∷ []) ∷ of 1 (5 ∷ []) ∷ of 1 (6 ∷ []) ∷ of 1 (9 ∷ []) ∷ []

-- without 11, which was late
abbrev pub got_at_right : List Datum
got_at_right = of 2 (12 ∷ []) ∷ of 1 (10 ∷ []) ∷ of 1 (4 ∷ []) ∷ of 1 (1 ∷ 2 ∷ 3 ∷ []) ∷ []

-- each user receives most, not all, of what the other handed in: `UsersGetWhatUsersGave`
pub record UsersTalk : Type 0 where
  pub left_handed : ended.left.handed ≡ handed_at_left
  pub right_handed : ended.right.handed ≡ handed_at_right
  pub left_received : ended.left.received ≡ got_at_left
  pub right_received : ended.right.received ≡ got_at_right
  pub to_left : Picked ended.left.received ended.right.handed
  pub to_right : Picked ended.right.received ended.left.handed

-- ---- one event

-- data that may be handed over stand at the front of the output, and are the other user's: `DataAreTheUsers`
pub record Gives (w : World) (to from : Side) (c : Happening) (n : ℕ) : Type 0 where
  pub may : Lawful w to from c
  pub front : (result_at w.time to c).outcome.front ≡ datum n
  pub users : TheUsers w to from c n

-- the initiator's first data, which had come too early before
abbrev pub FirstDataCome : Type 0
FirstDataCome = let w = reached_later start rising 3 in Gives w w.right w.left (comes l3) 3

-- and those that were under way while its clock wrapped
abbrev pub DataComeOverTheWrap : Type 0
DataComeOverTheWrap = let w = reached_later start until_near 20 in Gives w w.right w.left (comes l4) 1
