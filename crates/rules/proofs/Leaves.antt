-- The claims of specs/Leaves.antt, by going through the acts.
use Prim.Native.Nat.{ℕ, ◌+◌}
use mathlib.Core.Bool.{Bool, true, false}
use mathlib.Core.List.{List}
use mathlib.Core.Logic.{⊎_elim}
use mathlib.Core.Path.{◌≡◌, refl, sym, ap, subst, ◌∙◌}
use lib.Dec.{ltb}
use lib.ListN.{length}
use Rattle.judge.specs.declared.clock.Reading.{Reading}
use Rattle.rules.specs.Answers.{leaves_of, Leaving}
use Rattle.rules.specs.Answers.Leaving.{as_ruled, no_end, everything, new_reading, down, error_report, delivered}
use Rattle.rules.specs.Leaves.{Left, LeavesAsTheTableSays, ReadingMoves, reading_left, went_down}
use Rattle.rules.specs.Perform.{performed}
use Rattle.rules.specs.Place.{queue_after}
use Rattle.rules.specs.Talking.{has_gap, delivered_answer, delivering}
use Rattle.wire.proofs.Tests.{by_test}
use Rattle.rules.specs.Step.{Result, result_of, effect_of, stepped}
use Rattle.rules.specs.declared.answer.Answer.{Answer}
use Rattle.rules.specs.declared.act.Event.{Event}
use Rattle.rules.specs.declared.act.Act.{Act}
use Rattle.rules.specs.declared.act.Act.TheVariants.{Stay, Note, Move, Start, Hear, Say}
use Rattle.rules.specs.declared.act.Delivery.{Delivery}
use Rattle.rules.specs.declared.act.ConnectionMove.{ConnectionMove}
use Rattle.rules.specs.declared.act.ConnectionMove.TheVariants.{Ask, Accept, Lose, Fall}
use Rattle.rules.specs.declared.act.Exchange.{Exchange}
use Rattle.rules.specs.declared.act.Exchange.TheVariants.{Begin, Greet, Measure, Estimate, Finish, Rise}
use Rattle.rules.specs.declared.act.Verdict.{Verdict}
use Rattle.rules.specs.declared.act.Verdict.TheVariants.{Deliver, Report}
use Rattle.rules.specs.declared.act.Speech.{Speech}
use Rattle.rules.specs.declared.act.Speech.TheVariants.{Quiet, Beat, Speak, Drain, Hold}
use Rattle.rules.specs.declared.state.Life.TheVariants.{Up}
use Rattle.rules.specs.declared.state.End.{End}
use Rattle.rules.proofs.Acts.{EachTaken, by_act}
use Rattle.rules.proofs.Answered.{stay_leaves, note_leaves, failure_leaves}
use Rattle.rules.proofs.Grounds.{StayGrounds, Heard, NoteGrounds, MoveGrounds, VerdictGrounds, Fallen, body_of}
use Rattle.rules.proofs.Grounds.Fallen.{by_silence, by_start, by_loss, by_failure}

-- where an entry of the last column is known, what it says is to be shown of it
module _ (e : End) (event : Event) (at : Reading) (b out q : List ℕ) where
  abbrev After : Act → Result
  After act = result_of (performed e act at) b out q

  abbrev Leaves : Act → Type 0
  Leaves act = Left (leaves_of (After act).outcome.answer) e at b out q (After act)

  -- an answer that leaves x, shown by what x says
  leaving : (a : Answer) (x : Leaving) (r : Result) → leaves_of a ≡ x → Left x e at b out q r → Left (leaves_of a) e at b out q r
  leaving a x r is so = subst (λ (y : Leaving). Left y e at b out q r) (sym is) so

  fall_left : (a : Answer) (error : Bool) → Fallen e event at b a error → Leaves (Move (Fall a error))
  unfolding performed
  fall_left a error (by_silence is quiet over alive sort) =
      leaving a down _ (ap leaves_of is) (ap (λ (x : Bool). went_down e at x a out q) quiet)
  fall_left a error (by_start life h body is quiet low next kind wrong) =
      leaving a down _ (ap leaves_of is) (ap (λ (x : Bool). went_down e at x a out q) quiet)
  fall_left a error (by_loss h train is quiet hears class) =
      leaving a down _ (ap leaves_of is) (ap (λ (x : Bool). went_down e at x a out q) quiet)
  fall_left a error (by_failure loud why full) =
      leaving a error_report _ (failure_leaves e event at b a why) (rw full (ap (λ (x : Bool). went_down e at x a out q) loud))

  move_left : (m : ConnectionMove) → MoveGrounds e event at b m → Leaves (Move m)
  unfolding performed
  move_left Ask g = refl
  move_left Accept g = refl
  move_left Lose g = refl
  move_left (Fall answer error) g = fall_left answer error g

  start_left : (x : Exchange) → Leaves (Start x)
  unfolding performed
  start_left (Begin goes) = refl
  start_left (Greet s) = refl
  start_left (Measure m) = refl
  start_left (Estimate m) = refl
  start_left (Finish s) = refl
  start_left (Rise h) = refl

  delivery_queue : (train : Bool) → queue_after (delivering train) b q ≡ q
  delivery_queue true = refl
  delivery_queue false = refl

  delivery_left : (d : Delivery) → Heard e event at b Up d.header (body_of e event at b d.train) → (gap : Bool) → has_gap d ≡ gap
      → Leaves (Hear (Deliver d))
  unfolding performed
  delivery_left d hears true is =
      leaving (delivered_answer (has_gap d)) delivered _ (ap (λ (x : Bool). leaves_of (delivered_answer x)) is)
      (d.header, d.train, hears.reads, rw (is, delivery_queue d.train))
  delivery_left d hears false is =
      leaving (delivered_answer (has_gap d)) as_ruled _ (ap (λ (x : Bool). leaves_of (delivered_answer x)) is) refl

  hear_left : (v : Verdict) → VerdictGrounds e event at b v → Leaves (Hear v)
  unfolding performed
  hear_left (Deliver d) g = delivery_left d g.0 (has_gap d) refl
  hear_left (Report answer failures) g =
      leaving answer error_report _ (failure_leaves e event at b answer g.0) (rw (g.2, g.1))

  say_left : (s : Speech) → Leaves (Say s)
  unfolding performed
  say_left Quiet = refl
  say_left Beat = refl
  say_left Speak = refl
  say_left Drain = refl
  say_left Hold = refl

  note_left : (a : Answer) → NoteGrounds e event at b a → Leaves (Note a)
  unfolding performed
  note_left a g = ⊎_elim (λ is. leaving a as_ruled _ is refl) (λ is. leaving a new_reading _ is refl) (note_leaves e event at b a g)

  stay_left : (a : Answer) → StayGrounds e event at b (length out) a → Leaves (Stay a)
  unfolding performed
  stay_left a g = leaving a everything _ (stay_leaves e event at b (length out) a g) refl

  each_left : EachTaken e event at b Leaves
  each_left = record { notes = note_left; moves = move_left; starts = λ x g. start_left x; hears = hear_left; says = λ s g. say_left s }

pub leaves_as_the_table_says : LeavesAsTheTableSays
unfolding stepped effect_of
leaves_as_the_table_says e event at b out q =
    by_act e event at b (length out) (Leaves e event at b out q) (stay_left e event at b out q) (λ t. each_left e event at b out q)

-- ---- the reading

left_reading : (x : Leaving) (e : End) (at : Reading) (b out q : List ℕ) (r : Result) → Left x e at b out q r
    → r.outcome.end.reading ≡ reading_left x e.reading at
left_reading as_ruled e at b out q r so = so
left_reading no_end e at b out q r so = absurd so
left_reading everything e at b out q r so = ap (λ (x : Result). x.outcome.end.reading) so
left_reading new_reading e at b out q r so = ap (λ (x : Result). x.outcome.end.reading) so
left_reading down e at b out q r so = ap (λ (x : Result). x.outcome.end.reading) so
left_reading error_report e at b out q r so =
    ap (λ (x : Result). x.outcome.end.reading) so
    ∙ by_test (λ (x : Result). x.outcome.end.reading ≡ at) (ltb (e.line.failures + 1) e.settings.errors) (λ _. refl) (λ _. refl)
left_reading delivered e at b out q r so = ap (λ (x : Result). x.outcome.end.reading) so.3

pub reading_moves : ReadingMoves
reading_moves e event at b out q =
    left_reading (leaves_of (stepped e event at b out q).outcome.answer) e at b out q (stepped e event at b out q) (leaves_as_the_table_says e event at b out q)
