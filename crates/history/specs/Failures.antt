-- The failure count is the number of old and late messages since the last delivery or the coming Up, whichever is later.
use Rattle.std.specs.Prelude.{ℕ, ◌+◌, ◌<◌, Bool, true, false, cond, ◌||◌, List, [], ◌∷◌, ◌≡◌}
use Rattle.rules.specs.Answers.{Leaving, leaves_of}
use Rattle.rules.specs.Answers.Leaving.{as_ruled, no_end, everything, new_reading, down, error_report, delivered}
use Rattle.rules.specs.declared.answer.Answer.{Answer}
use Rattle.run.specs.Run.{Call, Making, Sound, after, history}
use Rattle.run.specs.Events.{is_delivery}
use Rattle.history.specs.Seen.{Seen, seen, number_in, counted, stands_up}

abbrev pub is_error_report : Leaving → Bool
is_error_report as_ruled = false
is_error_report no_end = false
is_error_report everything = false
is_error_report new_reading = false
is_error_report down = false
is_error_report error_report = true
is_error_report delivered = false

-- old or late: what leaves an error report, and at E of them down
abbrev pub is_failure : Answer → Bool
is_failure a = is_error_report (leaves_of a)

-- one event more, at an end that stands up or not
abbrev pub failures_after : Seen → Bool → ℕ → ℕ
failures_after x up before =
    cond (x.flags.up || is_delivery up x.event (number_in x)) 0 (before + counted (is_failure x.answer))

unfoldable pub failures_since : List Seen → ℕ
failures_since [] = 0
failures_since (x ∷ before) = failures_after x (stands_up before) (failures_since before)

-- an end that does not stand up has none
abbrev pub failures_of : Bool → ℕ → ℕ
failures_of up since = cond up since 0

abbrev pub failure_count : List Seen → ℕ
failure_count xs = failures_of (stands_up xs) (failures_since xs)

abbrev pub FailuresCounted : Type 0
FailuresCounted = (m : Making) (cs : List Call) → (after m cs).end.line.failures ≡ failure_count (seen (history m cs))

-- it never reaches E: the failure that would reach it takes the end down
abbrev pub FailuresBelowLimit : Type 0
FailuresBelowLimit = (m : Making) → Sound m → (cs : List Call) → failure_count (seen (history m cs)) < m.settings.errors
