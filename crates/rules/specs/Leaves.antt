-- What each answer leaves: the last column of the table, said of what an event came to. Proofs: proofs/Leaves.antt.
use Rattle.std.specs.Prelude.{ℕ, ◌+◌, Bool, true, false, cond, List, ◌≡◌, ltb, Some}
use Rattle.judge.specs.declared.clock.Reading.{Reading}
use Rattle.wire.specs.Message.{parse}
use Rattle.wire.specs.declared.message.Body.TheVariants.{LifeSign, TrainData}
use Rattle.wire.specs.declared.message.Header.{Header}
use Rattle.rules.specs.Answers.{leaves_of, Leaving}
use Rattle.rules.specs.Answers.Leaving.{as_ruled, no_end, everything, new_reading, down, error_report, delivered}
use Rattle.rules.specs.Ends.{was_up, moved_end, noted_end, fallen_end, no_flags, error_flag}
use Rattle.rules.specs.Line.{with_failures, accepted_line, delivered_line}
use Rattle.rules.specs.Place.{out_after, front_after}
use Rattle.rules.specs.Step.{Result, stepped}
use Rattle.rules.specs.Talking.{delivering}
use Rattle.rules.specs.declared.answer.Answer.{Answer}
use Rattle.rules.specs.declared.act.Event.{Event}
use Rattle.rules.specs.declared.state.End.{End}
use Rattle.rules.specs.declared.effect.Flags.{Flags}
use Rattle.rules.specs.declared.effect.Front.TheVariants.{Nothing as none}

-- an end, reports and an answer; nothing is given out, and every byte is as it was
abbrev pub without_output : End → Flags → Answer → List ℕ → List ℕ → Result
without_output e flags answer out q =
    record { outcome = record { end = e; front = none; flags = flags; answer = answer }; out = out; queue = q }

-- nothing is reported either
abbrev pub silently : End → Answer → List ℕ → List ℕ → Result
silently e answer out q = without_output e no_flags answer out q

-- down: Idle with nothing of its connection, after an error report where one is due, with a release
abbrev pub went_down : End → Reading → Bool → Answer → List ℕ → List ℕ → Result
went_down e at error answer out q =
    without_output (fallen_end e at) (record { ask = false; accept = false; up = false; error = error; release = true; down = was_up e })
    answer out q

-- the reading and the failure count, and an error report
abbrev pub counted_one : End → Reading → Answer → List ℕ → List ℕ → Result
counted_one e at answer out q =
    without_output (moved_end e at e.life (with_failures e.line (e.line.failures + 1)) e.ring) (error_flag true) answer out q

-- one more failure: an error report, and at E of them down
abbrev pub failed_once : End → Reading → Answer → List ℕ → List ℕ → Result
failed_once e at answer out q =
    cond (ltb (e.line.failures + 1) e.settings.errors) (counted_one e at answer out q) (went_down e at true answer out q)

-- the message is accepted, and its train data go to the user; then an error report
abbrev pub delivered_late : End → Reading → Header → Bool → Answer → List ℕ → List ℕ → List ℕ → Result
delivered_late e at h train answer given out q =
    record {
      outcome =
          record {
            end = moved_end e at e.life (delivered_line (accepted_line e.line h at) at) e.ring;
            front = front_after (delivering train) given q;
            flags = error_flag true;
            answer = answer;
          };
      out = out_after (delivering train) given q out;
      queue = q;
    }

-- r is what an answer with this entry in the last column leaves
abbrev pub Left : Leaving → End → Reading → List ℕ → List ℕ → List ℕ → Result → Type 0
Left as_ruled e at given out q r = r.outcome.end.reading ≡ at
Left no_end e at given out q r = ⊥
Left everything e at given out q r = r ≡ silently e r.outcome.answer out q
Left new_reading e at given out q r = r ≡ silently (noted_end e at) r.outcome.answer out q
Left down e at given out q r = r ≡ went_down e at false r.outcome.answer out q
Left error_report e at given out q r = r ≡ failed_once e at r.outcome.answer out q
Left delivered e at given out q r =
    (h : Header) × (train : Bool) × (parse given ≡ Some (record { header = h; body = cond train TrainData LifeSign }))
    × (r ≡ delivered_late e at h train r.outcome.answer given out q)

abbrev pub LeavesAsTheTableSays : Type 0
LeavesAsTheTableSays =
    (e : End) (event : Event) (at : Reading) (given out q : List ℕ) → let r = stepped e event at given out q in
    Left (leaves_of r.outcome.answer) e at given out q r

-- of events, only those that leave everything keep the old reading
abbrev pub reading_left : Leaving → Reading → Reading → Reading
reading_left as_ruled before at = at
reading_left no_end before at = before
reading_left everything before at = before
reading_left new_reading before at = at
reading_left down before at = at
reading_left error_report before at = at
reading_left delivered before at = at

abbrev pub ReadingMoves : Type 0
ReadingMoves =
    (e : End) (event : Event) (at : Reading) (given out q : List ℕ) → let r = stepped e event at given out q in
    r.outcome.end.reading ≡ reading_left (leaves_of r.outcome.answer) e.reading at
