-- Up and down alternate, beginning with up; data, error reports and the answers of an Up end stand only between them.
use Rattle.std.specs.Prelude.{ℕ, Bool, true, false, not, ◌||◌, ◌&&◌, List, [], ◌∷◌, ◌++◌, map, ◌≡◌, eqb}
use Rattle.rules.specs.Answers.{Leaving, number_of, leaves_of}
use Rattle.rules.specs.Answers.Leaving.{as_ruled, no_end, everything, new_reading, down as to-down, error_report, delivered}
use Rattle.rules.specs.Ends.{was_up}
use Rattle.rules.specs.Outputs.{Output, outputs_of}
use Rattle.rules.specs.Outputs.Output.{ask, accept, send, datum, up, error, release, down}
use Rattle.rules.specs.declared.answer.Answer.{Answer}
use Rattle.run.specs.Run.{Call, Making, after, entry_of, history}
use Rattle.run.specs.Events.{is_yes, is_datum_at}
use Rattle.history.specs.Seen.{Seen, seen, seen_of, number_in, up_at_first, stands_up}

-- ---- what a run puts out, in order

pub data Sign : Type 0 where
  answer : Answer → Sign
  output : Output → Sign

-- of one event: the answer, and then the outputs in their order
abbrev pub signs_of : Seen → List Sign
signs_of x = answer x.answer ∷ map output (outputs_of x.flags x.front x.out)

-- of all events, the oldest first
unfoldable pub trace : List Seen → List Sign
trace [] = []
trace (x ∷ before) = trace before ++ signs_of x

-- ---- what may stand where, at an end that stands up or not

-- the answers that only an Up end gives: old, lost, late, and delivered after a gap
abbrev pub is_of_up : ℕ → Bool
is_of_up n = eqb n 9 || eqb n 10 || eqb n 11 || eqb n 13

-- up only where it does not stand up; down, data and error only where it does
abbrev pub may_put_out : Bool → Output → Bool
may_put_out stands ask = true
may_put_out stands accept = true
may_put_out stands (send s) = true
may_put_out stands (datum s) = stands
may_put_out stands up = not stands
may_put_out stands error = stands
may_put_out stands release = true
may_put_out stands down = stands

abbrev pub may_stand : Bool → Sign → Bool
may_stand stands (answer a) = stands || not (is_of_up (number_of a))
may_stand stands (output o) = may_put_out stands o

abbrev pub up_by_output : Bool → Output → Bool
up_by_output stands ask = stands
up_by_output stands accept = stands
up_by_output stands (send s) = stands
up_by_output stands (datum s) = stands
up_by_output stands up = true
up_by_output stands error = stands
up_by_output stands release = stands
up_by_output stands down = false

abbrev pub up_by : Bool → Sign → Bool
up_by stands (answer a) = stands
up_by stands (output o) = up_by_output stands o

-- each sign may stand where it stands
unfoldable pub in_order : Bool → List Sign → Bool
in_order stands [] = true
in_order stands (s ∷ ss) = may_stand stands s && in_order (up_by stands s) ss

abbrev pub UpAndDownAlternate : Type 0
UpAndDownAlternate = (m : Making) (cs : List Call) → in_order up_at_first (trace (seen (history m cs))) ≡ true

-- an end is Up exactly while it stands up by its reports
abbrev pub UpAsReported : Type 0
UpAsReported = (m : Making) (cs : List Call) → stands_up (seen (history m cs)) ≡ was_up (after m cs).end

-- ---- which answers they come with

-- data go to the user only with the answers 0 and 13
abbrev pub DataAccepted : Seen → Type 0
DataAccepted x = is_datum_at x.front ≡ true → is_yes (number_in x) ≡ true

abbrev pub DataOnlyAccepted : Type 0
DataOnlyAccepted = (m : Making) (cs : List Call) (c : Call) → DataAccepted (seen_of (entry_of m cs c))

abbrev pub is_reported_by : Leaving → Bool
is_reported_by as_ruled = false
is_reported_by no_end = false
is_reported_by everything = false
is_reported_by new_reading = false
is_reported_by to-down = false
is_reported_by error_report = true
is_reported_by delivered = true

-- an error report comes with 9, 11 and 13, each time, and with no other
abbrev pub is_reported : Answer → Bool
is_reported a = is_reported_by (leaves_of a)

abbrev pub ErrorsReported : Type 0
ErrorsReported =
    (m : Making) (cs : List Call) (c : Call) → let x = seen_of (entry_of m cs c) in
    x.flags.error ≡ is_reported x.answer
