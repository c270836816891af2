-- What is delivered: what must be, by the tests of the rules; what may be, by the grounds of each act.
use Prim.Native.Nat.{ℕ, ◌-◌, ◌≤◌}
use native.Mathlib.Omega.{arith}
use mathlib.Core.Bool.{Bool, true, false, not}
use mathlib.Core.List.{List, ◌++◌}
use mathlib.Core.Logic.{◌⊎◌, inl, inr, ⊎_elim}
use mathlib.Core.Path.{◌≡◌, refl, sym, ap, subst, ◌∙◌}
use borrow.Author.Tests.{leb-true, le-leb, lt-leb, ne_eqb}
use lib.Dec.{eqb}
use lib.ListN.{length, drop}
use Rattle.judge.specs.Clock.{since_of}
use Rattle.judge.specs.Sequence.{class_at}
use Rattle.judge.specs.declared.clock.Reading.{Reading}
use Rattle.judge.specs.declared.sequence.Class.{Class}
use Rattle.judge.specs.declared.sequence.Class.TheVariants.{Expected, Gap}
use Rattle.wire.proofs.Parsing.{reads_as}
use Rattle.wire.specs.Message.{header_in, train_in}
use Rattle.wire.specs.declared.message.Header.{Header}
use Rattle.rules.specs.Answers.{number_of}
use Rattle.rules.specs.Claims.{answer_of, FrontIs}
use Rattle.rules.specs.Decide.{on_event}
use Rattle.rules.specs.Ends.{was_up, error_flag}
use Rattle.rules.specs.Hearing.{ahead_for, class_for, age_for, fresh_for, delivery_of, on_age, on_class, on_up_message}
use Rattle.rules.specs.Living.{overdue, overdue_in}
use Rattle.rules.specs.Perform.{performed}
use Rattle.rules.specs.State.{phase_of, awaited_by}
use Rattle.rules.specs.Step.{effect_of, result_of, stepped}
use Rattle.rules.specs.Talking.{has_gap, delivered_answer}
use Rattle.rules.specs.declared.act.Act.{Act}
use Rattle.rules.specs.declared.act.Act.TheVariants.{Move, Start, Hear, Say}
use Rattle.rules.specs.declared.act.Event.{Event}
use Rattle.rules.specs.declared.act.Event.TheVariants.{Tick, Connect, Disconnect, Data, Message}
use Rattle.rules.specs.declared.act.ConnectionMove.{ConnectionMove}
use Rattle.rules.specs.declared.act.ConnectionMove.TheVariants.{Ask, Accept, Lose, Fall}
use Rattle.rules.specs.declared.act.Exchange.{Exchange}
use Rattle.rules.specs.declared.act.Verdict.{Verdict}
use Rattle.rules.specs.declared.act.Verdict.TheVariants.{Deliver, Report}
use Rattle.rules.specs.declared.act.Speech.{Speech}
use Rattle.rules.specs.declared.act.Speech.TheVariants.{Quiet, Beat, Speak, Drain, Hold}
use Rattle.rules.specs.declared.effect.Flags.{Flags}
use Rattle.rules.specs.declared.effect.Front.{Front}
use Rattle.rules.specs.declared.settings.Settings.{Settings}
use Rattle.rules.specs.declared.state.Life.{Life}
use Rattle.rules.specs.declared.state.Life.TheVariants.{Up}
use Rattle.rules.specs.declared.state.End.{End}
use Rattle.rules.proofs.Answered.{exchange_low}
use Rattle.rules.proofs.Claims.{one_at_the_front}
use Rattle.rules.proofs.Grounds.{MoveGrounds, ExchangeGrounds, VerdictGrounds, SpeechGrounds}
use Rattle.run.specs.Run.{Call, Kept, Entry, came_to, after, entry_of}
use Rattle.run.specs.Events.{is_acceptance, is_delivery, is_datum_at, delivers}
use Rattle.run.proofs.Brought.{no_delivery, refused_brings, stay_refused, failure_refused, fall_refused, note_brings}
use Rattle.run.proofs.Reach.{in_reach}
use Rattle.run.proofs.Calls.{entry_by, by_call}
use Rattle.run.proofs.Choices.{never}
use Rattle.run.proofs.Events.{delivery_is}
use Rattle.run.proofs.Lasting.{ranges, run_lasts}
use Rattle.history.specs.Delivery.{HandedOver, Says, IsJudged, InTurnAndFresh, ExpectedIsDelivered, GapIsDelivered, DeliveredIsFresh, UserGetsDelivered}
use Rattle.history.proofs.Reached.{reached}
use Rattle.history.proofs.Walk.{shown}

-- ---- what must be delivered

module _ (e : End) (at : Reading) (given out q : List ℕ) (h : Header) (judges : IsJudged e at out) where
  timely : overdue e at ≡ false
  timely =
      ap (λ (l : Life). overdue_in (phase_of l) e at) judges.up
      ∙ lt-leb e.settings.silence (since_of at e.line.times.heard) judges.timely

  -- a kind is awaited, and it is 6
  some_kind : eqb (awaited_by e.life) 0 ≡ false
  some_kind = ap (λ (l : Life). eqb (awaited_by l) 0) judges.up

  kind_6 : eqb 6 (awaited_by e.life) ≡ true
  kind_6 = ap (λ (l : Life). eqb 6 (awaited_by l)) judges.up

  judged : (train : Bool) → (class_for e h ≡ Expected) ⊎ (class_for e h ≡ Gap) → fresh_for e at h ≡ true
      → on_up_message e at h train ≡ Hear (Deliver (delivery_of e at h train))
  judged train near fresh =
      let aged : on_age e at h train ≡ Hear (Deliver (delivery_of e at h train)) = rw fresh in
      ⊎_elim (λ k. ap (λ (y : Class). on_class y e at h train) k ∙ aged) (λ k. ap (λ (y : Class). on_class y e at h train) k ∙ aged) near

  rule : (train : Bool) → Says given h train → (class_for e h ≡ Expected) ⊎ (class_for e h ≡ Gap) → fresh_for e at h ≡ true
      → on_event e Message at given ≡ Hear (Deliver (delivery_of e at h train))
  unfolding on_event
  rule true says near fresh = rw (timely, some_kind, says, kind_6) (judged true near fresh)
  rule false says near fresh = rw (timely, some_kind, says, kind_6) (judged false near fresh)

  hands_over_lem : (train : Bool) → HandedOver train given out (result_of (performed e (Hear (Deliver (delivery_of e at h train))) at) given out q)
  unfolding performed
  hands_over_lem true = (refl, refl)
  hands_over_lem false = (refl, refl)

  delivered : (train : Bool) → Says given h train → (class_for e h ≡ Expected) ⊎ (class_for e h ≡ Gap) → age_for e at h ≤ e.settings.age
      → let r = stepped e Message at given out q in
      let gap = has_gap (delivery_of e at h train) in
      (r.outcome.answer ≡ delivered_answer gap) × HandedOver train given out r × (r.outcome.flags ≡ error_flag gap) × (r.outcome.end.life ≡ Up)
  unfolding stepped effect_of performed
  delivered train says near young =
      let fresh = le-leb (age_for e at h) e.settings.age young in
      rw (reached e Message at given out judges.taken ∙ rule train says near fresh)
      (refl, hands_over_lem train, refl, judges.up)

next_expected : (d limit : ℕ) → d ≡ 1 → class_at d limit ≡ Expected
next_expected d limit is = ap (λ (n : ℕ). class_at n limit) is

near_gap : (d limit : ℕ) → 2 ≤ d → d ≤ limit → limit ≤ 1_000 → class_at d limit ≡ Gap
near_gap d limit some few low =
    rw (ne_eqb d 0 (λ z. omega arith), ne_eqb d 1 (λ z. omega arith), lt-leb 32768 d (omega arith), le-leb d limit few)

pub expected_is_delivered : ExpectedIsDelivered
expected_is_delivered e at given out q h train judges says next young =
    let so = delivered e at given out q h judges train says (inl (next_expected (ahead_for e h) e.settings.jump next)) young in
    let none : has_gap (delivery_of e at h train) ≡ false = ap (λ (d : ℕ). not (eqb (d - 1) 0)) next in
    (ap number_of (so.0 ∙ ap delivered_answer none), so.1, so.2 ∙ ap error_flag none, so.3)

pub gap_is_delivered : GapIsDelivered
gap_is_delivered e at given out q h train judges says some few low young =
    let so = delivered e at given out q h judges train says (inr (near_gap (ahead_for e h) e.settings.jump some few low)) young in
    let gap : has_gap (delivery_of e at h train) ≡ true = ap not (ne_eqb (ahead_for e h - 1) 0 (λ z. omega arith)) in
    (ap number_of (so.0 ∙ ap delivered_answer gap), so.1, ap (λ (f : Flags). f.error) (so.2 ∙ ap error_flag gap), so.3)

-- ---- what may be delivered

module _ (k : Kept) (c : Call) (some : 1 ≤ k.end.settings.jump) where
  abbrev e : End
  e = k.end

  -- a delivery has its facts
  abbrev Rightly : Entry → Type 0
  Rightly x = delivers x ≡ true → InTurnAndFresh x e.settings.jump e.settings.age

  abbrev Only : Act → Type 0
  Only act = Rightly (entry_by k c act)

  refused : (A : Type 0) (n : ℕ) → is_acceptance c.event n ≡ false → is_delivery (was_up e) c.event n ≡ true → A
  refused A n none = never _ (no_delivery (was_up e) c.event n none)

  -- another event than a message
  elsewhere : (A : Type 0) (what : Event) → c.event ≡ what → is_acceptance what 0 ≡ false → is_delivery (was_up e) c.event 0 ≡ true → A
  elsewhere A what comes none = refused A 0 (ap (λ (v : Event). is_acceptance v 0) comes ∙ none)

  move_only : (m : ConnectionMove) → MoveGrounds e c.event c.at c.given m → Only (Move m)
  unfolding performed
  move_only Ask g = elsewhere _ Tick g.0.comes refl
  move_only Accept g = elsewhere _ Connect g.0 refl
  move_only Lose g = elsewhere _ Disconnect g.0 refl
  move_only (Fall a error) g =
      refused _ (number_of a) (refused_brings c.event (number_of a) (fall_refused e c.event c.at c.given a error g)).0

  -- a message of the start comes to an end that is not Up
  start_only : (x : Exchange) → ExchangeGrounds e c.event c.at c.given x → Only (Start x)
  start_only x g is =
      absurd (exchange_low e c.event c.at c.given x g (delivery_is c.event e.life (answer_of (entry_by k c (Start x)).result) is).1)

  hear_only : (v : Verdict) → VerdictGrounds e c.event c.at c.given v → Only (Hear v)
  unfolding performed
  hear_only (Deliver d) g is =
      let reach = in_reach e c.event c.at c.given d.header g.2 in
      let young = leb-true (age_for e c.at d.header) e.settings.age g.3 in
      let head : d.header ≡ header_in c.given = (reads_as c.given _ g.0.reads).0 in
      record { later = rw head at reach.some; near = rw head at (reach.near some); fresh = rw head at young }
  hear_only (Report a failures) g is =
      refused _ (number_of a) (refused_brings c.event (number_of a) (failure_refused e c.event c.at c.given a g.0)).0 is

  say_only : (s : Speech) → SpeechGrounds e c.event c.at c.given s → Only (Say s)
  unfolding performed
  say_only Quiet g = elsewhere _ Tick g.0.comes refl
  say_only Beat g = elsewhere _ Tick g.0.comes refl
  say_only Speak g = elsewhere _ Data g.0.comes refl
  say_only Drain g = elsewhere _ Tick g.0.comes refl
  say_only Hold g = elsewhere _ Data g.0.comes refl

  only : Rightly (record { before = k; call = c; result = came_to k c })
  unfolding performed
  only =
      by_call k c Rightly
      (λ a g. refused _ (number_of a) (refused_brings c.event (number_of a) (stay_refused e c.event c.at c.given (length c.out) a g)).0)
      (λ _. record {
        notes = λ a g. refused _ (number_of a) (note_brings e c.event c.at c.given a g).0;
        moves = move_only;
        starts = start_only;
        hears = hear_only;
        says = say_only;
      })

pub delivered_is_fresh : DeliveredIsFresh
delivered_is_fresh m sound cs c is =
    let kept = (run_lasts m cs).0 in
    let some = subst (λ (s : Settings). 1 ≤ s.jump) (sym kept) (ranges m.settings sound.0).jump in
    subst (λ (s : Settings). InTurnAndFresh (entry_of m cs c) s.jump s.age) kept (only (after m cs) c some is)

-- ---- what the user gets

pub user_gets_delivered : UserGetsDelivered
user_gets_delivered m cs c n is =
    let k = after m cs in
    let stands = subst (λ (f : Front). FrontIs f c.given c.out (came_to k c).out) is (one_at_the_front k.end c.event c.at c.given c.out k.queue) in
    ((shown k c).hands (ap is_datum_at is), stands.0, stands.1 ∙ ap (λ (y : ℕ). train_in c.given ++ drop y c.out) stands.0)
