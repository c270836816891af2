-- What one event can do to the times that an end holds: seven fates, and each act has one of them.
use Prim.Native.Nat.{ℕ}
use mathlib.Core.Bool.{Bool, true, false, cond, ◌&&◌, ◌||◌}
use mathlib.Core.Logic.{◌⊎◌, inl, inr, ⊎_elim}
use mathlib.Core.Path.{◌≡◌, refl, sym, ap, ◌∙◌}
use borrow.Author.Tests.{ltb-true, lt-leb}
use lib.Dec.{leb, eqb}
use lib.ListN.{length}
use Rattle.judge.specs.Clock.{back_of}
use Rattle.judge.specs.declared.clock.Reading.{Reading}
use Rattle.rules.specs.Answers.{number_of}
use Rattle.rules.specs.Claims.{answer_of}
use Rattle.rules.specs.Decide.{least_room}
use Rattle.rules.specs.Ends.{was_up}
use Rattle.rules.specs.Living.{overdue, may_ask}
use Rattle.rules.specs.Make.{asks_at_once}
use Rattle.rules.specs.Perform.{performed}
use Rattle.rules.specs.State.{phase_of}
use Rattle.rules.specs.Talking.{has_gap, delivered_answer}
use Rattle.rules.specs.declared.answer.Answer.{Answer}
use Rattle.rules.specs.declared.act.Event.{Event}
use Rattle.rules.specs.declared.act.Event.TheVariants.{Tick, Connect, Confirm, Disconnect, Data, Message}
use Rattle.rules.specs.declared.act.Act.{Act}
use Rattle.rules.specs.declared.act.Act.TheVariants.{Stay, Note, Move, Start, Hear, Say}
use Rattle.rules.specs.declared.act.ConnectionMove.{ConnectionMove}
use Rattle.rules.specs.declared.act.ConnectionMove.TheVariants.{Ask, Accept, Lose, Fall}
use Rattle.rules.specs.declared.act.Exchange.{Exchange}
use Rattle.rules.specs.declared.act.Exchange.TheVariants.{Begin, Greet, Measure, Estimate, Finish, Rise}
use Rattle.rules.specs.declared.act.Verdict.{Verdict}
use Rattle.rules.specs.declared.act.Verdict.TheVariants.{Deliver, Report}
use Rattle.rules.specs.declared.act.Speech.{Speech}
use Rattle.rules.specs.declared.act.Speech.TheVariants.{Quiet, Beat, Speak, Drain, Hold}
use Rattle.rules.specs.declared.state.Role.TheVariants.{Initiator, Called}
use Rattle.rules.specs.declared.state.Life.{Life}
use Rattle.rules.specs.declared.state.Life.TheVariants.{Idle, Calling, Opening, Settling, Greeted, Answering, Closing, Up}
use Rattle.rules.specs.declared.state.Phase.TheVariants.{Starting as starting}
use Rattle.rules.specs.declared.state.End.{End}
use Rattle.rules.proofs.Answered.{exchange_comes, exchange_awake, exchange_low, failure_comes, fall_awake}
use Rattle.rules.proofs.Grounds.{NoteGrounds, MoveGrounds, ExchangeGrounds, VerdictGrounds, SpeechGrounds, StayGrounds}
use Rattle.rules.proofs.Grounds.StayGrounds.{no_room, went_back}
use Rattle.rules.proofs.Lives.{apart, up_awake, only_up, waking}
use Rattle.run.specs.Run.{Call, Kept, Entry, came_to}
use Rattle.run.specs.Events.{is_tick, is_confirm, is_acceptance, is_delivery, is_passed_by}
use Rattle.run.proofs.Brought.{Brings, no_delivery, delivered_yes, known_brings, refused_brings, stay_refused, failure_refused, fall_refused, note_brings}
use Rattle.run.proofs.Calls.{entry_by, by_call}
use Rattle.run.proofs.Choices.{not-true, either_false, same_false}
use Rattle.run.proofs.Events.{is_delivery_lem}
use Rattle.run.proofs.Noted.{note_sort, sort_timely, sort_tick}
use Rattle.history.specs.Timed.{roomy}
use Rattle.history.specs.Waiting.{waits, asks_in, is_idle_in, is_idle, rests}
use Rattle.history.specs.Silence.{hears}

-- ---- the fates

-- the end before an event, and after it
abbrev pub old : Entry → End
old x = x.before.end

abbrev pub new : Entry → End
new x = x.result.outcome.end

-- whether the wait begins, the end asks, comes to rest, and hears of its peer
abbrev pub Sorts : Entry → Bool → Bool → Bool → Bool → Type 0
Sorts x w a r h = (waits x ≡ w) × (asks_in x ≡ a) × (rests x ≡ r) × (hears x ≡ h)

-- a connect indication to an initiator, or an end that is not overdue
abbrev pub InTime : End → Event → Reading → Type 0
InTime e event at = (is_passed_by e.role event ≡ true) ⊎ (overdue e at ≡ false)

-- the phase and its times are as they were, and no tick found an Idle initiator that may ask
pub record Keeping (e f : End) (event : Event) (at : Reading) : Type 0 where
  pub phase : phase_of f.life ≡ phase_of e.life
  pub calling : f.life ≡ Calling → e.life ≡ Calling
  pub began : f.line.began ≡ e.line.began
  pub heard : f.line.times.heard ≡ e.line.times.heard
  pub asking : f.asking ≡ e.asking
  pub timely : InTime e event at
  pub early : is_tick event ≡ true → e.life ≡ Idle → e.role ≡ Initiator → may_ask e at ≡ false

pub data Fate (x : Entry) : Type 0 where
  -- nothing changes, the reading neither
  still : (roomy x ≡ false) ⊎ (back_of x.call.at (old x).reading ≡ true)
      → (answer_of x.result ≡ 2) ⊎ (answer_of x.result ≡ 14) → new x ≡ old x
      → Sorts x false false false false → Fate x
  keeps : (new x).reading ≡ x.call.at → Sorts x false false false false
      → Keeping (old x) (new x) x.call.event x.call.at → Fate x
  -- the end is Up, and has just heard of its peer
  hearing : (new x).reading ≡ x.call.at → Sorts x false false false true → (new x).life ≡ Up
      → (new x).line.times.heard ≡ x.call.at → (new x).asking ≡ (old x).asking → Fate x
  asking : (new x).reading ≡ x.call.at → Sorts x true true false false → (new x).life ≡ Calling
      → (new x).line.began ≡ x.call.at → (new x).asking.when ≡ x.call.at → Fate x
  accepting : (new x).reading ≡ x.call.at → Sorts x true false false false → (new x).life ≡ Greeted
      → (new x).line.began ≡ x.call.at → (old x).role ≡ Called → Fate x
  -- the confirm has come
  beginning : (new x).reading ≡ x.call.at → Sorts x true false false false → (new x).life ≡ Opening
      → (new x).line.began ≡ x.call.at → (old x).life ≡ Calling
      → (new x).asking ≡ (old x).asking → overdue (old x) x.call.at ≡ false → Fate x
  falling : (new x).reading ≡ x.call.at → Sorts x false false true false → (new x).life ≡ Idle
      → ((old x).life ≡ Idle → ⊥) → (new x).asking.when ≡ (old x).asking.when
      → (new x).asking.at_once ≡ (old x).asking.at_once || (was_up (old x) && asks_at_once (old x).role) → Fate x

awake : (l : Life) → (l ≡ Idle → ⊥) → is_idle l ≡ false
awake l alive = ⊎_elim (ap is_idle_in) (ap is_idle) (waking l alive)

-- ---- each act

module _ (k : Kept) (c : Call) where
  abbrev e : End
  e = k.end

  abbrev FateOf : Act → Type 0
  FateOf act = Fate (entry_by k c act)

  unheard : (n : ℕ) → is_acceptance c.event n ≡ false → is_delivery (was_up e) c.event n ≡ false
  unheard n none = no_delivery (was_up e) c.event n none

  -- of an event that brings nothing and keeps the life
  abbrev Calm : ℕ → Type 0
  Calm n =
      (is_confirm c.event && eqb n 0 ≡ false) × (false ≡ false) × (cond (is_idle e.life) false (is_idle e.life) ≡ false)
      × (is_delivery (was_up e) c.event n ≡ false)

  calm : (n : ℕ) (d : Bool) → Brings c.event n false d false → Calm n
  calm n d b = (b.2, refl, same_false (is_idle e.life), unheard n b.0)

  -- ---- connections

  move_fate : (m : ConnectionMove) → MoveGrounds e c.event c.at c.given m → FateOf (Move m)
  unfolding performed
  move_fate Ask g =
      let b = known_brings c.event Tick 0 false false false g.0.comes (refl, refl, refl) in
      asking refl (refl, refl, either_false (is_idle e.life), unheard 0 b.0) refl refl refl
  move_fate Accept g =
      let b = known_brings c.event Connect 0 false false false g.0 (refl, refl, refl) in
      accepting refl (refl, refl, either_false (is_idle e.life), unheard 0 b.0) refl refl g.1
  move_fate Lose g =
      let b = known_brings c.event Disconnect 0 false false false g.0 (refl, refl, refl) in
      falling refl (b.2, refl, ap (λ (t : Bool). cond t false true) (awake e.life g.1), unheard 0 b.0) refl g.1 refl refl
  move_fate (Fall a error) g =
      let b = refused_brings c.event (number_of a) (fall_refused e c.event c.at c.given a error g) in
      let alive = fall_awake e c.event c.at c.given a error g in
      falling refl (b.2, refl, ap (λ (t : Bool). cond t false true) (awake e.life alive), unheard (number_of a) b.0) refl alive refl refl

  -- ---- messages of the start

  module _ (x : Exchange) (g : ExchangeGrounds e c.event c.at c.given x) where
    abbrev phase : phase_of e.life ≡ starting
    phase = (exchange_comes e c.event c.at c.given x g).0

    low : was_up e ≡ false
    low = not-true (was_up e) (λ is. exchange_low e c.event c.at c.given x g (only_up e.life is))

    -- nothing is delivered, and the end is not Idle afterwards
    goes_on : (what : Event) (w : Bool) → c.event ≡ what → is_confirm what && true ≡ w
        → (is_confirm c.event && true ≡ w) × (false ≡ false) × (cond (is_idle e.life) false false ≡ false) × (is_delivery (was_up e) c.event 0 ≡ false)
    goes_on what w comes is = (
      ap (λ (v : Event). is_confirm v && true) comes ∙ is,
      refl,
      either_false (is_idle e.life),
      ap (λ (t : Bool). t && is_acceptance c.event 0) low,
    )

    starting_early : is_tick c.event ≡ true → e.life ≡ Idle → e.role ≡ Initiator → may_ask e c.at ≡ false
    starting_early tick idle = absurd (exchange_awake e c.event c.at c.given x g idle)

    continues : (f : End) → phase_of f.life ≡ starting → (f.life ≡ Calling → ⊥) → f.line.began ≡ e.line.began → f.line.times.heard ≡ e.line.times.heard
        → f.asking ≡ e.asking → Keeping e f c.event c.at
    continues f is other began heard asks =
        record {
          phase = is ∙ sym phase;
          calling = λ z. absurd (other z);
          began = began;
          heard = heard;
          asking = asks;
          timely = inr (exchange_comes e c.event c.at c.given x g).1;
          early = starting_early;
        }

  start_fate : (x : Exchange) → ExchangeGrounds e c.event c.at c.given x → FateOf (Start x)
  unfolding performed
  start_fate (Begin goes) g =
      beginning refl (goes_on (Begin goes) g Confirm true g.0.comes refl) refl refl g.1 refl g.0.timely
  start_fate (Greet s) g =
      keeps refl (goes_on (Greet s) g Message false g.2.hearing.comes refl) (continues (Greet s) g _ refl (apart Answering Calling refl) refl refl refl)
  start_fate (Measure m) g =
      keeps refl (goes_on (Measure m) g Message false g.2.hearing.comes refl) (continues (Measure m) g _ refl (apart Settling Calling refl) refl refl refl)
  start_fate (Estimate m) g =
      keeps refl (goes_on (Estimate m) g Message false g.2.hearing.comes refl) (continues (Estimate m) g _ refl (apart Closing Calling refl) refl refl refl)
  start_fate (Finish s) g =
      hearing refl (ap (λ (v : Event). is_confirm v && true) g.4.hearing.comes, refl, either_false (is_idle e.life), refl) refl refl refl
  start_fate (Rise h) g =
      hearing refl (ap (λ (v : Event). is_confirm v && true) g.hearing.comes, refl, either_false (is_idle e.life), refl) refl refl refl

  -- ---- while Up

  same : (f : End) → f.life ≡ e.life → f.line.began ≡ e.line.began → f.line.times.heard ≡ e.line.times.heard → f.asking ≡ e.asking
      → InTime e c.event c.at → (is_tick c.event ≡ true → e.life ≡ Idle → e.role ≡ Initiator → may_ask e c.at ≡ false)
      → Keeping e f c.event c.at
  same f life began heard asks timely early =
      record { phase = ap phase_of life; calling = λ is. sym life ∙ is; began = began; heard = heard; asking = asks; timely = timely; early = early }

  up_early : e.life ≡ Up → is_tick c.event ≡ true → e.life ≡ Idle → e.role ≡ Initiator → may_ask e c.at ≡ false
  up_early up tick idle = absurd (up_awake e.life up idle)

  hear_fate : (v : Verdict) → VerdictGrounds e c.event c.at c.given v → FateOf (Hear v)
  unfolding performed
  hear_fate (Deliver d) g =
      let n = number_of (delivered_answer (has_gap d)) in
      let delivers = is_delivery_lem c.event e.life n g.0.comes g.0.living (delivered_yes (has_gap d)) in
      hearing refl (ap (λ (v : Event). is_confirm v && eqb n 0) g.0.comes, refl, same_false (is_idle e.life), delivers)
      g.0.living refl refl
  hear_fate (Report a failures) g =
      let come = failure_comes e c.event c.at c.given a g.0 in
      keeps refl (calm (number_of a) false (refused_brings c.event (number_of a) (failure_refused e c.event c.at c.given a g.0)))
      (same _ refl refl refl refl (inr come.1) (up_early come.2))

  by_event : (what : Event) (d : Bool) → c.event ≡ what → Brings what 0 false d false → Calm 0
  by_event what d comes b = calm 0 d (known_brings c.event what 0 false d false comes b)

  say_fate : (s : Speech) → SpeechGrounds e c.event c.at c.given s → FateOf (Say s)
  unfolding performed
  say_fate Quiet g =
      keeps refl (by_event Tick false g.0.comes (refl, refl, refl)) (same _ refl refl refl refl (inr g.0.timely) (up_early g.0.living))
  say_fate Beat g =
      keeps refl (by_event Tick false g.0.comes (refl, refl, refl)) (same _ refl refl refl refl (inr g.0.timely) (up_early g.0.living))
  say_fate Speak g =
      keeps refl (by_event Data true g.0.comes (refl, refl, refl)) (same _ refl refl refl refl (inr g.0.timely) (up_early g.0.living))
  say_fate Drain g =
      keeps refl (by_event Tick false g.0.comes (refl, refl, refl)) (same _ refl refl refl refl (inr g.0.timely) (up_early g.0.living))
  say_fate Hold g =
      keeps refl (by_event Data true g.0.comes (refl, refl, refl)) (same _ refl refl refl refl (inr g.0.timely) (up_early g.0.living))

  -- ---- notes, and events that are not taken

  note_fate : (a : Answer) → NoteGrounds e c.event c.at c.given a → FateOf (Note a)
  unfolding performed
  note_fate a g =
      let sort = note_sort e c.event c.at c.given a g in
      keeps refl (calm (number_of a) false (note_brings e c.event c.at c.given a g))
      (same _ refl refl refl refl (sort_timely e c.event c.at c.given (number_of a) sort)
      (λ tick. (sort_tick e c.event c.at c.given (number_of a) sort tick).1))

  stay_fate : (a : Answer) (g : StayGrounds e c.event c.at c.given (length c.out) a) → FateOf (Stay a)
  unfolding performed
  stay_fate a g =
      let why = whys a g in
      still why.0 why.1 refl
      (calm (number_of a) false (refused_brings c.event (number_of a) (stay_refused e c.event c.at c.given (length c.out) a g)))
    where
      whys : (a : Answer) → StayGrounds e c.event c.at c.given (length c.out) a
          → ((leb least_room (length c.out) ≡ false) ⊎ (back_of c.at e.reading ≡ true)) × ((number_of a ≡ 2) ⊎ (number_of a ≡ 14))
      whys a (no_room is short) =
          (inl (lt-leb least_room (length c.out) (ltb-true (length c.out) least_room short)), inr (ap number_of is))
      whys a (went_back is fits back) = (inr back, inl (ap number_of is))

  pub fate : Fate (record { before = k; call = c; result = came_to k c })
  fate =
      by_call k c Fate stay_fate
      (λ _. record { notes = note_fate; moves = move_fate; starts = start_fate; hears = hear_fate; says = say_fate })
