-- User data wait, leave in their order, and are lost by going down: `Sending`, `NothingLost` and `WaitsWhileUp`.
use Rattle.std.specs.Prelude.{ℕ, List, [], ◌∷◌, ◌++◌, ◌≡◌}
use Rattle.rules.specs.declared.state.Life.TheVariants.{Idle, Up}
use Rattle.run.specs.Run.{Sound}
use Rattle.history.specs.Sending.{handed_in, sent_in, lost_in, waiting, in_connection}
use Rattle.witness.specs.Ends.{initiator}
use Rattle.witness.specs.Table.{Row, ran, left}
use Rattle.witness.specs.Initiator.{until_full, until_down, until_up_again}

-- data of one byte each
abbrev pub single : List ℕ → List (List ℕ)
single [] = []
single (x ∷ xs) = (x ∷ []) ∷ single xs

-- the data of a connection that were handed in; those sent, those lost and those that wait
abbrev pub Moves : List Row → List ℕ → List ℕ → List ℕ → List ℕ → Type 0
Moves xs handed sent lost waits =
    (in_connection handed_in (ran initiator xs) ≡ single handed)
    × (in_connection sent_in (ran initiator xs) ≡ single sent)
    × (in_connection lost_in (ran initiator xs) ≡ single lost)
    × (waiting (left initiator xs) ≡ single waits)
    × (in_connection handed_in (ran initiator xs)
    ≡ in_connection sent_in (ran initiator xs) ++ (in_connection lost_in (ran initiator xs) ++ waiting (left initiator xs)))

-- Up, and eight wait: nothing is lost
abbrev pub EightWait : Type 0
EightWait =
    Sound initiator
    × Moves until_full (7 ∷ 8 ∷ 9 ∷ 10 ∷ 11 ∷ 12 ∷ 13 ∷ 14 ∷ 15 ∷ 16 ∷ []) (7 ∷ 8 ∷ []) []
    (9 ∷ 10 ∷ 11 ∷ 12 ∷ 13 ∷ 14 ∷ 15 ∷ 16 ∷ [])
    × ((left initiator until_full).end.life ≡ Idle → ⊥)
    × (in_connection lost_in (ran initiator until_full) ≡ [])

-- then one more leaves, and the others are lost: nothing waits
abbrev pub SevenAreLost : Type 0
SevenAreLost =
    Sound initiator
    × Moves until_down (7 ∷ 8 ∷ 9 ∷ 10 ∷ 11 ∷ 12 ∷ 13 ∷ 14 ∷ 15 ∷ 16 ∷ []) (7 ∷ 8 ∷ 9 ∷ [])
    (10 ∷ 11 ∷ 12 ∷ 13 ∷ 14 ∷ 15 ∷ 16 ∷ []) []
    × ((left initiator until_down).end.life ≡ Up → ⊥)
    × (waiting (left initiator until_down) ≡ [])

-- and in the next connection there are none of them
abbrev pub NoneInTheNext : Type 0
NoneInTheNext = Moves until_up_again [] [] [] []
