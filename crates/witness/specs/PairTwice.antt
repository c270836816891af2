-- Why an ask may be answered once only. The called end accepts ask 1, delivers the initiator's data, loses the connection and accepts
-- ask 1 again; the old messages are of "the same connection" then, and it delivers the same data once more. An accept that comes so late
-- answers none, and begins no connection: specs/PairUnasked.antt.
use Rattle.std.specs.Prelude.{ℕ, cond, List, [], ◌∷◌, ◌≡◌, eqb}
use Rattle.pair.specs.World.{Letter, Delivery, World}
use Rattle.pair.specs.Happening.{Happening}
use Rattle.pair.specs.Run.{Beginning, Lawful, begun, next}
use Rattle.pair.specs.Run.Move.{at_left, at_right}
use Rattle.rules.specs.declared.state.Role.TheVariants.{Initiator, Called}
use Rattle.witness.specs.Ends.{settings}
use Rattle.witness.specs.PairTable.{made, beginning, no_letter, tick, connect, confirm, disconnect, user, comes}

-- the letter at a place in a log
abbrev pub letter_at : ℕ → List Letter → Letter
letter_at place [] = no_letter
letter_at place (l ∷ ls) = cond (eqb l.place place) l (letter_at place ls)

abbrev pub start : Beginning
start = beginning (made Initiator settings 100) (made Called settings 4_000_000_000)

-- the one side is handed what the other sent at a place
abbrev pub hand_left : ℕ → World → World
hand_left place w = next w (at_left (comes (letter_at place w.right.log)))

abbrev pub hand_right : ℕ → World → World
hand_right place w = next w (at_right (comes (letter_at place w.left.log)))

abbrev pub do_left : Happening → World → World
do_left c w = next w (at_left c)

abbrev pub do_right : Happening → World → World
do_right c w = next w (at_right c)

-- ask 1 is accepted, both come Up, and the initiator's data are delivered, all in one tick
abbrev pub accepted : World
accepted =
    hand_right 3 (do_left (user (7 ∷ [])) (hand_right 2 (hand_left 1 (hand_right 1 (hand_left 0 (hand_right 0 (do_left confirm
    (do_right (connect 1) (do_left tick (begun start))))))))))

-- the called end loses the connection
abbrev pub lost : World
lost = do_right disconnect accepted

-- it accepts ask 1 a second time, and is handed the same messages
abbrev pub accepted_again : World
accepted_again = hand_right 3 (hand_right 2 (hand_right 1 (hand_right 0 (do_right (connect 1) lost))))

abbrev pub places : List Delivery → List ℕ
places [] = []
places (d ∷ ds) = d.letter.place ∷ places ds

pub record DeliveredTwice : Type 0 where
  pub once : places accepted.right.delivered ≡ 3 ∷ []
  pub twice : places accepted_again.right.delivered ≡ 3 ∷ 3 ∷ []
  -- no run has this: an accept may not answer ask 1 again
  pub not_lawful : Lawful lost lost.right lost.left (connect 1) → ⊥
