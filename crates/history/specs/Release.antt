-- A release leaves exactly with the answers 8, 10 and 12, and with 9 and 11 at the limit of failures.
use Rattle.std.specs.Prelude.{ℕ, ◌+◌, Bool, true, false, List, ◌∷◌, ◌≡◌, leb}
use Rattle.rules.specs.Answers.{Leaving, leaves_of}
use Rattle.rules.specs.Answers.Leaving.{as_ruled, no_end, everything, new_reading, down, error_report, delivered}
use Rattle.rules.specs.declared.answer.Answer.{Answer}
use Rattle.rules.specs.declared.state.Life.TheVariants.{Idle}
use Rattle.run.specs.Run.{Call, Making, after, entry_of, history}
use Rattle.history.specs.Seen.{seen, seen_of, stands_up}
use Rattle.history.specs.Failures.{failure_count}

-- what leaves down, and what leaves an error report where that is one at the limit
abbrev pub is_released_by : Leaving → Bool → Bool
is_released_by as_ruled at_limit = false
is_released_by no_end at_limit = false
is_released_by everything at_limit = false
is_released_by new_reading at_limit = false
is_released_by down at_limit = true
is_released_by error_report at_limit = at_limit
is_released_by delivered at_limit = false

-- an answer, after so many failures, with the limit E
abbrev pub is_released : Answer → ℕ → ℕ → Bool
is_released a failures limit = is_released_by (leaves_of a) (leb limit (failures + 1))

abbrev pub ReleasedExactly : Type 0
ReleasedExactly =
    (m : Making) (cs : List Call) (c : Call) → let x = seen_of (entry_of m cs c) in
    x.flags.release ≡ is_released x.answer (failure_count (seen (history m cs))) m.settings.errors

-- who releases is Idle then, and reports down if it stood up
abbrev pub ReleasedIsDown : Type 0
ReleasedIsDown =
    (m : Making) (cs : List Call) (c : Call) → let x = seen_of (entry_of m cs c) in
    x.flags.release ≡ true → ((after m (c ∷ cs)).end.life ≡ Idle) × (x.flags.down ≡ stands_up (seen (history m cs)))
