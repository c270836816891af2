-- The example of the Sunday script: its calls after the making, which is answered 0, and what they come to.
use Rattle.std.specs.Prelude.{ℕ, List, [], ◌∷◌}
use Rattle.witness.specs.Ends.{initiator, tick, confirm}
use Rattle.witness.specs.Table.{Row, row, Happens}
use Rattle.rules.specs.Outputs.Output.{ask, send, release}

-- the bytes 01 00 00 00 00 00 67 and eight of 00
abbrev pub first_bytes : List ℕ
first_bytes = 1 ∷ 0 ∷ 0 ∷ 0 ∷ 0 ∷ 0 ∷ 103 ∷ 0 ∷ 0 ∷ 0 ∷ 0 ∷ 0 ∷ 0 ∷ 0 ∷ 0 ∷ []

abbrev pub sunday : List Row
sunday =
    row (tick 100) 0 (ask ∷ [])
    ∷ row (confirm 103) 0 (send first_bytes ∷ [])
    ∷ row (tick 50) 2 []
    ∷ row (tick 603) 12 (release ∷ [])
    ∷ row (tick 604) 0 []
    ∷ row (tick 1_100) 0 (ask ∷ [])
    ∷ []

abbrev pub SundayHappens : Type 0
SundayHappens = Happens initiator sunday
