-- Every event shows what proofs/Shown.antt says, whatever its act.
use Prim.Native.Nat.{ℕ, ◌+◌, ◌≤◌}
use native.Mathlib.Omega.{arith}
use mathlib.Core.Bool.{Bool, true, false, not, ◌&&◌}
use mathlib.Core.List.{List, []}
use mathlib.Core.Logic.{⊎_elim}
use mathlib.Core.Path.{◌≡◌, refl, sym, ap, subst, ◌∙◌}
use borrow.Author.Tests.{ltb-true, ltb-false, eqb-false, le-leb, ne_eqb}
use lib.Dec.{eqb}
use lib.ListN.{length, get_or}
use Rattle.wire.specs.Message.{encode, header_bytes, kind_of}
use Rattle.wire.specs.declared.message.Message.{Message}
use Rattle.wire.specs.Writing.{over}
use Rattle.wire.specs.declared.message.Body.{Body}
use Rattle.wire.proofs.Tests.{by_test}
use Rattle.rules.specs.Answers.{Leaving, number_of, leaves_of}
use Rattle.rules.specs.Answers.Leaving.{as_ruled, new_reading}
use Rattle.rules.specs.Ends.{no_flags, up_flag, was_up}
use Rattle.rules.specs.Perform.{performed}
use Rattle.rules.specs.Place.{out_after, front_after}
use Rattle.rules.specs.State.{is_up}
use Rattle.rules.specs.declared.answer.Answer.{Answer}
use Rattle.rules.specs.declared.answer.Answer.TheVariants.{Handled, ClockBack, NoRoom}
use Rattle.rules.specs.declared.act.Act.{Act}
use Rattle.rules.specs.declared.act.Act.TheVariants.{Stay, Note, Move, Start, Hear, Say}
use Rattle.rules.specs.declared.act.Event.{Event}
use Rattle.rules.specs.declared.act.ConnectionMove.{ConnectionMove}
use Rattle.rules.specs.declared.act.ConnectionMove.TheVariants.{Ask, Accept, Lose, Fall}
use Rattle.rules.specs.declared.act.Exchange.{Exchange}
use Rattle.rules.specs.declared.act.Exchange.TheVariants.{Begin, Greet, Measure, Estimate, Finish, Rise}
use Rattle.rules.specs.declared.act.Measurement.{Measurement}
use Rattle.rules.specs.declared.act.Swap.{Swap}
use Rattle.rules.specs.declared.act.Verdict.{Verdict}
use Rattle.rules.specs.declared.act.Verdict.TheVariants.{Deliver, Report}
use Rattle.rules.specs.declared.act.Speech.{Speech}
use Rattle.rules.specs.declared.act.Speech.TheVariants.{Quiet, Beat, Speak, Drain, Hold}
use Rattle.rules.specs.declared.state.End.{End}
use Rattle.rules.specs.declared.effect.Flags.{Flags}
use Rattle.rules.specs.declared.effect.Placing.{Placing}
use Rattle.rules.specs.declared.effect.Front.TheVariants.{Message as leaves}
use Rattle.rules.specs.declared.state.Life.{Life}
use Rattle.rules.specs.declared.state.Life.TheVariants.{Calling, Opening, Settling, Greeted, Answering, Closing}
use Rattle.rules.proofs.Answered.{note_leaves, failure_leaves, failure_comes}
use Rattle.rules.proofs.Grounds.{NoteGrounds, MoveGrounds, ExchangeGrounds, VerdictGrounds, SpeechGrounds, StayGrounds, Fallen}
use Rattle.rules.proofs.Grounds.Fallen.{by_silence, by_start, by_loss, by_failure}
use Rattle.rules.proofs.Grounds.StayGrounds.{no_room, went_back}
use Rattle.rules.proofs.Lives.{was_up_lem, only_up}
use Rattle.run.specs.Run.{Call, Kept, Entry, came_to}
use Rattle.run.specs.Events.{is_tick, is_dropped, is_yes, is_acceptance}
use Rattle.run.proofs.Brought.{no_delivery, refused_brings, note_brings, failure_refused}
use Rattle.run.proofs.Calls.{entry_by, by_call}
use Rattle.run.proofs.Choices.{never, not-true, and-false}
use Rattle.run.proofs.Noted.{note_sort, sort_few, sort_tick}
use Rattle.history.specs.Seen.{Seen, seen_of}
use Rattle.history.specs.Reports.{is_of_up}
use Rattle.history.specs.LifeSigns.{speaks, kind_at}
use Rattle.history.proofs.Shown.{Shown, Calm, Marks, snap, snap_of, sight, marks_on, keeps, clears, rises, delivers, fails}

-- the first byte of a message that leaves
kind_sent : (m : Message) (d out : List ℕ) → get_or (over (encode m d) out) 0 0 ≡ kind_of m.body
unfolding encode header_bytes
kind_sent m d out = refl

-- an answer of at most 7 is none that only an Up end gives
few_of_up : (n : ℕ) → n ≤ 7 → is_of_up n ≡ false
few_of_up n few =
    simp (ne_eqb n 9 (λ z. omega arith), ne_eqb n 10 (λ z. omega arith), ne_eqb n 11 (λ z. omega arith), ne_eqb n 13 (λ z. omega arith))

calm_by : (a : Answer) (x : Leaving) → leaves_of a ≡ x → Calm x → Calm (leaves_of a)
calm_by a x is so = subst Calm (sym is) so

module _ (k : Kept) (c : Call) where
  abbrev e : End
  e = k.end

  abbrev Shows : Act → Type 0
  Shows act = Shown (snap_of (entry_by k c act))

  -- ---- nothing changes but perhaps the reading

  rests : (a : Answer) → Calm (leaves_of a) → is_of_up (number_of a) ≡ false → is_acceptance c.event (number_of a) ≡ false
      → (was_up e ≡ true → is_tick c.event && not (is_dropped (number_of a)) ≡ false) → Shows (Note a)
  unfolding performed
  rests a calm any unheard unticked =
      keeps refl calm any (no_delivery (was_up e) c.event (number_of a) unheard) refl (never _ refl)
      (marks_on (seen_of (entry_by k c (Note a))) e.line.busy (was_up e) refl unticked)

  dropped : (a : Answer) → Calm (leaves_of a) → is_of_up (number_of a) ≡ false → is_yes (number_of a) ≡ false → is_dropped (number_of a) ≡ true
      → Shows (Note a)
  dropped a calm any refused drop =
      rests a calm any (refused_brings c.event (number_of a) refused).0
      (λ _. ap (λ (t : Bool). is_tick c.event && not t) drop ∙ and-false (is_tick c.event))

  stay_shows : (a : Answer) → StayGrounds e c.event c.at c.given (length c.out) a → Shows (Stay a)
  unfolding performed
  stay_shows a (no_room is short) = rw is (dropped NoRoom (refl, refl, λ _. refl) refl refl refl)
  stay_shows a (went_back is fits back) = rw is (dropped ClockBack (refl, refl, λ _. refl) refl refl refl)

  note_shows : (a : Answer) → NoteGrounds e c.event c.at c.given a → Shows (Note a)
  note_shows a g =
      let sort = note_sort e c.event c.at c.given a g in
      rests a
      (⊎_elim (λ is. calm_by a as_ruled is (refl, refl, λ _. refl)) (λ is. calm_by a new_reading is (refl, refl, λ _. refl))
      (note_leaves e c.event c.at c.given a g))
      (few_of_up (number_of a) (sort_few e c.event c.at c.given (number_of a) sort))
      (note_brings e c.event c.at c.given a g).0
      (λ up. ap (λ (t : Bool). t && not (is_dropped (number_of a)))
      (not-true (is_tick c.event) (λ t. (sort_tick e c.event c.at c.given (number_of a) sort t).0 (only_up e.life up))))

  -- ---- connections

  fall_shows : (a : Answer) (error : Bool) → Fallen e c.event c.at c.given a error → Shows (Move (Fall a error))
  unfolding performed
  fall_shows a error (by_silence is quiet over alive sort) =
      rw (is, quiet) (clears refl (never _ refl) (never _ refl) refl refl (λ _. refl))
  fall_shows a error (by_start life h body is quiet low next kind wrong) =
      rw (is, quiet) (clears refl (never _ refl) (never _ refl) refl refl (λ _. refl))
  fall_shows a error (by_loss h train is quiet hears class) =
      rw (is, quiet) (clears refl (λ _. was_up_lem e.life hears.living) (never _ refl) refl refl (λ _. refl))
  fall_shows a error (by_failure loud why full) =
      let up = was_up_lem e.life (failure_comes e c.event c.at c.given a why).2 in
      let leaves = failure_leaves e c.event c.at c.given a why in
      let most : e.settings.errors ≤ e.line.failures + 1 = ltb-false (e.line.failures + 1) e.settings.errors full in
      rw loud (clears refl (λ _. up) (λ _. up) (rw leaves refl) (rw leaves (sym (le-leb e.settings.errors _ most))) (λ _. refl))

  move_shows : (m : ConnectionMove) → MoveGrounds e c.event c.at c.given m → Shows (Move m)
  unfolding performed
  move_shows Ask g = rw g.1 (clears refl (λ t. t) (λ t. t) refl refl (never _ refl))
  move_shows Accept g = clears refl (never _ refl) (never _ refl) refl refl (never _ refl)
  move_shows Lose g = clears refl (never _ refl) (never _ refl) refl refl (never _ refl)
  move_shows (Fall a error) g = fall_shows a error g

  -- ---- messages of the start

  -- what is seen of a message that leaves
  abbrev sent : Message → List ℕ → Flags → Seen
  sent m d flags = sight c.event Handled flags (leaves (length (encode m d))) (over (encode m d) c.out)

  silent : (m : Message) (d : List ℕ) (flags : Flags) → eqb (kind_of m.body) 6 ≡ false → speaks (sent m d flags) ≡ false
  silent m d flags other = ap (λ (n : ℕ). eqb n 6) (kind_sent m d c.out) ∙ other

  starts : (m : Message) (l l' : Life) → e.life ≡ l → is_up l ≡ false → is_up l' ≡ false → eqb (kind_of m.body) 6 ≡ false
      → Shown (snap (sent m [] no_flags) (was_up e) l' e.line.failures e.line.failures e.line.busy e.line.busy e.settings.errors)
  starts m l l' living low low' other =
      let was : was_up e ≡ false = ap is_up living ∙ low in
      let quiet = silent m [] no_flags other in
      keeps (low' ∙ sym was) (refl, refl, λ _. refl) refl (ap (λ (t : Bool). t && is_acceptance c.event 0) was) refl (never _ quiet)
      (marks_on (sent m [] no_flags) e.line.busy (was_up e) quiet (λ up. never _ was up))

  start_shows : (x : Exchange) → ExchangeGrounds e c.event c.at c.given x → Shows (Start x)
  unfolding performed
  start_shows (Begin goes) g = starts _ Calling Opening g.1 refl refl (ap (λ (y : Body). eqb (kind_of y) 6) g.2)
  start_shows (Greet s) g =
      starts _ Greeted Answering g.2.hearing.living refl refl (ap (λ (y : Swap). eqb (kind_of y.goes) 6) g.1)
  start_shows (Measure m) g =
      starts _ Opening Settling g.2.hearing.living refl refl (ap (λ (y : Measurement). eqb (kind_of y.swap.goes) 6) g.1)
  start_shows (Estimate m) g =
      starts _ Answering Closing g.2.hearing.living refl refl (ap (λ (y : Measurement). eqb (kind_of y.swap.goes) 6) g.1)
  start_shows (Finish s) g =
      rw (g.4.hearing.comes, g.4.hearing.living)
      (rises refl (silent _ [] up_flag (ap (λ (y : Swap). eqb (kind_of y.goes) 6) g.3)))
  start_shows (Rise h) g = rw (g.hearing.comes, g.hearing.living) (rises refl refl)

  -- ---- while Up

  hear_shows : (v : Verdict) → VerdictGrounds e c.event c.at c.given v → Shows (Hear v)
  unfolding performed
  hear_shows (Deliver d) g =
      rw (g.0.comes, g.0.living)
      (delivers (by_test (λ (p : Placing). eqb (kind_at (front_after p c.given k.queue) (out_after p c.given k.queue c.out)) 6 ≡ false)
      d.train (λ _. refl) (λ _. refl)))
  hear_shows (Report a failures) g =
      let come = failure_comes e c.event c.at c.given a g.0 in
      rw (come.0, come.2, g.1)
      (fails (failure_leaves e c.event c.at c.given a g.0) (failure_refused e c.event c.at c.given a g.0)
      (ltb-true (e.line.failures + 1) e.settings.errors g.2))

  -- a mark that was not set says that none has left
  none_left : (g : ℕ) → Marks false true g → g ≡ 0
  none_left g m = let few = m.1 in let other = eqb-false g 1 (sym m.0) in omega arith

  say_shows : (s : Speech) → SpeechGrounds e c.event c.at c.given s → Shows (Say s)
  unfolding performed encode header_bytes
  say_shows Quiet g =
      rw (g.0.comes, g.0.living) (keeps refl (refl, refl, λ _. refl) refl refl refl (λ _. refl) (λ n m. (refl, omega arith)))
  say_shows Beat g =
      rw (g.0.comes, g.0.living) (keeps refl (refl, refl, λ _. refl) refl refl refl (λ _. refl) (λ n m. (refl, omega arith)))
  say_shows Speak g =
      rw (g.0.comes, g.0.living, g.2)
      (keeps refl (refl, refl, λ _. refl) refl refl refl (λ _. refl) (λ n m. rw (none_left n m) (refl, omega arith)))
  say_shows Drain g =
      rw (g.0.comes, g.0.living) (keeps refl (refl, refl, λ _. refl) refl refl refl (λ _. refl) (λ n m. (refl, omega arith)))
  say_shows Hold g =
      rests Handled (refl, refl, λ _. refl) refl (ap (λ (v : Event). is_acceptance v 0) g.0.comes)
      (λ _. ap (λ (v : Event). is_tick v && true) g.0.comes)

pub shown : (k : Kept) (c : Call) → Shown (snap_of (record { before = k; call = c; result = came_to k c }))
shown k c =
    by_call k c (λ (x : Entry). Shown (snap_of x)) (stay_shows k c)
    (λ _. record { notes = note_shows k c; moves = move_shows k c; starts = start_shows k c; hears = hear_shows k c; says = say_shows k c })
