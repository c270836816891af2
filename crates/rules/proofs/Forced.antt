-- Where the table's condition of an answer holds, that answer is given: the tests of the rules lead to it.
use Rattle.std.specs.Prelude.{Option, Some}
use Prim.Native.Nat.{ℕ, ◌+◌, ◌-◌, ◌^◌, ◌≤◌, ◌<◌}
use native.Mathlib.Omega.{arith}
use mathlib.Core.Bool.{Bool, true, false, not, cond, and-eq-true_iff, false≢true}
use mathlib.Core.List.{List}
use mathlib.Core.Logic.{◌⊎◌, inl, inr, ⊎_elim}
use mathlib.Core.Path.{◌≡◌, refl, sym, ap, ◌∙◌}
use mathlib.Mathlib.Data.Bool.Basic.{eq-false_of_not-eq-true}
use borrow.Author.Tests.{le-leb, lt-leb, le-ltb, lt-ltb, eq-eqb, ne_eqb, leb-true, leb-false, eqb-true, eqb-false}
use lib.Dec.{ltb, eqb}
use lib.ListN.{length}
use Rattle.judge.specs.Clock.{since_of, same_of, narrow_of, offsets_by, spread_of, opposed_of}
use Rattle.judge.specs.Sequence.{class_at}
use Rattle.judge.specs.declared.clock.Reading.{Reading}
use Rattle.judge.specs.declared.sequence.Class.{Class}
use Rattle.judge.specs.declared.sequence.Class.TheVariants.{Expected, Gap, Lost, Old}
use Rattle.queue.specs.Ring.{places, waiting_in}
use Rattle.wire.proofs.Carrying.{is_carried, not_carried}
use Rattle.wire.proofs.Tests.{by_test}
use Rattle.wire.specs.Message.{parse, kind_of}
use Rattle.wire.specs.declared.message.Header.{Header}
use Rattle.wire.specs.declared.message.Body.{Body}
use Rattle.wire.specs.declared.message.Body.TheVariants.{OffsetStart, OffsetAnsw1, OffsetAnsw2, OffsetEst, OffsetEnd, LifeSign, TrainData}
use Rattle.wire.specs.declared.message.Message.{Message}
use Rattle.rules.specs.State.{phase_of, awaited_by}
use Rattle.rules.specs.Living.{in_time, on_connect, on_disconnect, on_confirm, on_idle_tick, may_ask}
use Rattle.rules.specs.Starting.{measures, in_turn, on_answer1, on_answer2, on_estimate}
use Rattle.rules.specs.Hearing.{ahead_for, class_for, age_for, fresh_for, on_failure, on_age, on_class, on_up_message, on_awaited, on_parsed, on_message}
use Rattle.rules.specs.Speaking.{sendable, life_sign_due, on_tick, on_data, on_up_data}
use Rattle.rules.specs.Decide.{least_room, decide_of, on_event}
use Rattle.rules.specs.Given.{IsTaken, Overdue, Judged, Reads, InStart, WhileUp, Mismeasured, IsWrong, IsGap, IsLost, IsOld, HasGoodLength, IsOrdinary, IsHandled, HasNoRule, Given}
use Rattle.rules.specs.Perform.{performed}
use Rattle.rules.specs.Talking.{delivered_answer}
use Rattle.rules.specs.declared.answer.Answer.{Answer}
use Rattle.rules.specs.declared.answer.Answer.TheVariants.{Handled, OutOfRange, ClockBack, NoRule, BadLength, QueueFull, Malformed, NotAwaited, StartFailed, Old as old, Lost as lost, Late as late, Silent, Gap as gap, NoRoom}
use Rattle.rules.specs.declared.act.Event.{Event}
use Rattle.rules.specs.declared.act.Event.TheVariants.{Tick, Confirm, Data, Message as message}
use Rattle.rules.specs.declared.act.Act.{Act}
use Rattle.rules.specs.declared.act.Act.TheVariants.{Note, Say}
use Rattle.rules.specs.declared.act.Speech.TheVariants.{Speak, Hold}
use Rattle.rules.specs.declared.state.Role.{Role}
use Rattle.rules.specs.declared.state.Role.TheVariants.{Initiator, Called}
use Rattle.rules.specs.declared.state.Life.{Life}
use Rattle.rules.specs.declared.state.Life.TheVariants.{Idle, Calling, Opening, Settling, Greeted, Answering, Closing, Up}
use Rattle.rules.specs.declared.state.Phase.TheVariants.{Starting as starting}
use Rattle.rules.specs.declared.state.End.{End}
use Rattle.rules.proofs.Given.{overdue_in_lem, is_overdue, kind_some}
use Rattle.rules.proofs.Lives.{starting_awake, starting_low}

-- ---- tests

not-false : (t : Bool) → (t ≡ false → ⊥) → t ≡ true
not-false true other = refl
not-false false other = absurd (other refl)

good_length : (b : List ℕ) → HasGoodLength b → sendable (length b) ≡ true
good_length b good = is_carried b good.0 good.1

bad_length : (b : List ℕ) → (HasGoodLength b → ⊥) → sendable (length b) ≡ false
bad_length b bad = not_carried b (λ some few. bad (some, few))

-- ---- lives

not_idle : (l : Life) → (l ≡ Idle → ⊥) → (e : End) → on_disconnect (phase_of l) ≡ on_disconnect (phase_of Up)
not_idle Idle alive e = absurd (alive refl)
not_idle Calling alive e = refl
not_idle Opening alive e = refl
not_idle Settling alive e = refl
not_idle Greeted alive e = refl
not_idle Answering alive e = refl
not_idle Closing alive e = refl
not_idle Up alive e = refl

-- a starting life awaits no kind 6
starting_awaits : (l : Life) → phase_of l ≡ starting → awaited_by l ≡ 6 → ⊥
starting_awaits Idle low six = omega arith
starting_awaits Calling low six = omega arith
starting_awaits Opening low six = omega arith
starting_awaits Settling low six = omega arith
starting_awaits Greeted low six = omega arith
starting_awaits Answering low six = omega arith
starting_awaits Closing low six = omega arith
starting_awaits Up low six = starting_low Up low refl

-- ---- classes

module _ (limit d : ℕ) where
  expected_class : d ≡ 1 → class_at d limit ≡ Expected
  expected_class is = rw (ne_eqb d 0 (λ z. omega arith), eq-eqb d 1 is)

  gap_class : IsGap limit d → class_at d limit ≡ Gap
  gap_class g =
      rw (ne_eqb d 0 (λ z. let two = g.0 in omega arith), ne_eqb d 1 (λ z. let two = g.0 in omega arith), lt-leb 32_768 d g.2, le-leb d limit g.1)

  lost_class : IsLost limit d → class_at d limit ≡ Lost
  lost_class g =
      rw (ne_eqb d 0 (λ z. let two = g.0 in omega arith), ne_eqb d 1 (λ z. let two = g.0 in omega arith), lt-leb 32_768 d g.2, lt-leb d limit g.1)

  old_class : IsOld d → class_at d limit ≡ Old
  old_class (inl z) = rw (eq-eqb d 0 z)
  old_class (inr half) = rw (ne_eqb d 0 (λ z. omega arith), ne_eqb d 1 (λ z. omega arith), le-leb 32_768 d half)

module _ (e : End) (event : Event) (at : Reading) (b : List ℕ) (room : ℕ) where
  abbrev Answered : Answer → Act → Type 0
  Answered a act = (performed e act at).answer ≡ a

  -- what is decided on is an act with this answer
  by : (act : Act) (a : Answer) → decide_of e event at b room ≡ act → Answered a act → Answered a (decide_of e event at b room)
  by act a is so = ap (λ (x : Act). (performed e x at).answer) is ∙ so

  decides : IsTaken e at room → decide_of e event at b room ≡ on_event e event at b
  unfolding decide_of
  decides t = rw (le-ltb room least_room t.fits, lt-leb (2 ^ 31) (since_of at e.reading) t.forth)

  timely : (Overdue e at → ⊥) → (act : Act) → in_time e at act ≡ act
  timely not' act = rw (eq-false_of_not-eq-true (λ t. not' (overdue_in_lem e at e.life refl t)))

  judges : (what : Event) → Judged e event at b room what → (act : Act) → on_event e what at b ≡ in_time e at act → decide_of e event at b room ≡ act
  judges what j act is =
      decides j.taken ∙ ap (λ (v : Event). on_event e v at b) j.comes ∙ is ∙ timely j.timely act

  -- ---- user data

  judges_data : Judged e event at b room Data → e.life ≡ Up → decide_of e event at b room ≡ on_up_data e (length b)
  unfolding on_event
  judges_data j up =
      judges Data j (on_data (phase_of e.life) e (length b)) refl ∙ ap (λ (l : Life). on_data (phase_of l) e (length b)) up

  -- ---- messages

  judges_message : Judged e event at b room message → decide_of e event at b room ≡ on_message e at (parse b)
  unfolding on_event
  judges_message j = judges message j (on_message e at (parse b)) refl

  listens : (p : Option Message) → (awaited_by e.life ≡ 0 → ⊥) → on_message e at p ≡ on_parsed e at p
  listens p some = rw (ne_eqb (awaited_by e.life) 0 some)

  hears : (m : Message) → Reads e event at b room m → (awaited_by e.life ≡ 0 → ⊥) → decide_of e event at b room ≡ on_parsed e at (Some m)
  hears m r some = judges_message r.judged ∙ listens (parse b) some ∙ ap (on_parsed e at) r.reads

  awaited_some : (m : Message) → kind_of m.body ≡ awaited_by e.life → awaited_by e.life ≡ 0 → ⊥
  awaited_some m kind none = kind_some m.body (kind ∙ none)

  hears_awaited : (m : Message) → Reads e event at b room m → kind_of m.body ≡ awaited_by e.life
      → decide_of e event at b room ≡ on_awaited e at m.header m.body
  hears_awaited m r kind = hears m r (awaited_some m kind) ∙ rw (eq-eqb (kind_of m.body) (awaited_by e.life) kind)

  hears_other : (m : Message) → Reads e event at b room m → (awaited_by e.life ≡ 0 → ⊥) → (kind_of m.body ≡ awaited_by e.life → ⊥)
      → Answered NotAwaited (decide_of e event at b room)
  unfolding performed
  hears_other m r some other =
      by (on_parsed e at (Some m)) NotAwaited (hears m r some) (rw (ne_eqb (kind_of m.body) (awaited_by e.life) other))

  -- ---- of the start

  in_turn_lem : (m : Message) → InStart e event at b room m → (act : Act) → in_turn e m.header act ≡ act
  in_turn_lem m s act = rw (eq-eqb (ahead_for e m.header) 1 s.next)

  measured : (h : Header) → (Mismeasured e at h → ⊥) → measures e at h ≡ true
  measured h right =
      (and-eq-true_iff (same_of h.stamps.echo e.line.offsets.since) (narrow_of (offsets_by h.stamps at) e.settings.spread)).1 (
        not-false (same_of h.stamps.echo e.line.offsets.since) (λ f. right (inl (λ is. false≢true (sym f ∙ eq-eqb _ _ is)))),
        not-false (narrow_of (offsets_by h.stamps at) e.settings.spread)
            (λ f. right (inr (leb-false (spread_of (offsets_by h.stamps at)) e.settings.spread f))),
      )

  unmeasured : (h : Header) → Mismeasured e at h → measures e at h ≡ false
  unmeasured h (inl other) =
      eq-false_of_not-eq-true (λ t. other (eqb-true _ _
      ((and-eq-true_iff (same_of h.stamps.echo e.line.offsets.since) (narrow_of (offsets_by h.stamps at) e.settings.spread)).0 t).0))
  unmeasured h (inr wide) =
      eq-false_of_not-eq-true (λ t. let n = leb-true (spread_of (offsets_by h.stamps at)) e.settings.spread
      ((and-eq-true_iff (same_of h.stamps.echo e.line.offsets.since) (narrow_of (offsets_by h.stamps at) e.settings.spread)).0 t).1 in
      omega arith)

  -- a kind 6 is not awaited while starting
  no_data : (m : Message) → InStart e event at b room m → kind_of m.body ≡ 6 → ⊥
  no_data m s six = starting_awaits e.life s.starts (sym s.awaited ∙ six)

  right_start : (m : Message) → InStart e event at b room m → (body : Body) → m.body ≡ body → (IsWrong e at m.header body → ⊥)
      → Answered Handled (on_awaited e at m.header body)
  unfolding performed
  right_start m s OffsetStart is right = ap (λ (x : Act). (performed e x at).answer) (in_turn_lem m s _)
  right_start m s OffsetAnsw1 is right =
      ap (λ (x : Act). (performed e x at).answer) (in_turn_lem m s (on_answer1 e at m.header)) ∙ rw (measured m.header right)
  right_start m s OffsetAnsw2 is right =
      ap (λ (x : Act). (performed e x at).answer) (in_turn_lem m s (on_answer2 e at m.header)) ∙ rw (measured m.header right)
  right_start m s (OffsetEst minimum maximum) is right =
      ap (λ (x : Act). (performed e x at).answer) (in_turn_lem m s (on_estimate e m.header minimum))
      ∙ rw (not-false (opposed_of minimum e.line.offsets.maximum) (λ f. right (λ same. false≢true (sym f ∙ eq-eqb _ _ same))))
  right_start m s OffsetEnd is right = ap (λ (x : Act). (performed e x at).answer) (in_turn_lem m s _)
  right_start m s LifeSign is right = absurd (no_data m s (ap kind_of is))
  right_start m s TrainData is right = absurd (no_data m s (ap kind_of is))

  wrong_start : (m : Message) → InStart e event at b room m → (body : Body) → m.body ≡ body → IsWrong e at m.header body
      → Answered StartFailed (on_awaited e at m.header body)
  unfolding performed
  wrong_start m s OffsetStart is wrong = absurd wrong
  wrong_start m s OffsetAnsw1 is wrong =
      ap (λ (x : Act). (performed e x at).answer) (in_turn_lem m s (on_answer1 e at m.header)) ∙ rw (unmeasured m.header wrong)
  wrong_start m s OffsetAnsw2 is wrong =
      ap (λ (x : Act). (performed e x at).answer) (in_turn_lem m s (on_answer2 e at m.header)) ∙ rw (unmeasured m.header wrong)
  wrong_start m s (OffsetEst minimum maximum) is wrong =
      ap (λ (x : Act). (performed e x at).answer) (in_turn_lem m s (on_estimate e m.header minimum))
      ∙ rw (eq-false_of_not-eq-true (λ t. wrong (eqb-true _ _ t)))
  wrong_start m s OffsetEnd is wrong = absurd wrong
  wrong_start m s LifeSign is wrong = absurd wrong
  wrong_start m s TrainData is wrong = absurd wrong

  -- one out of turn
  out_of_turn : (h : Header) (body : Body) → (kind_of body ≡ 6 → ⊥) → (ahead_for e h ≡ 1 → ⊥) → Answered NotAwaited (on_awaited e at h body)
  unfolding performed
  out_of_turn h OffsetStart low other = rw (ne_eqb (ahead_for e h) 1 other)
  out_of_turn h OffsetAnsw1 low other = rw (ne_eqb (ahead_for e h) 1 other)
  out_of_turn h OffsetAnsw2 low other = rw (ne_eqb (ahead_for e h) 1 other)
  out_of_turn h (OffsetEst minimum maximum) low other = rw (ne_eqb (ahead_for e h) 1 other)
  out_of_turn h OffsetEnd low other = rw (ne_eqb (ahead_for e h) 1 other)
  out_of_turn h LifeSign low other = absurd (low refl)
  out_of_turn h TrainData low other = absurd (low refl)

  -- ---- while Up

  abbrev UpAct : Message → Bool → Act
  UpAct m train = on_up_message e at m.header train

  -- whatever holds of a kind 6, of train data and of a life sign, holds of what it comes to
  up_body : (P : Act → Type 0) (m : Message) (body : Body) → kind_of body ≡ 6 → ((train : Bool) → P (UpAct m train)) → P (on_awaited e at m.header body)
  up_body P m OffsetStart six all = absurd (omega arith)
  up_body P m OffsetAnsw1 six all = absurd (omega arith)
  up_body P m OffsetAnsw2 six all = absurd (omega arith)
  up_body P m (OffsetEst minimum maximum) six all = absurd (omega arith)
  up_body P m OffsetEnd six all = absurd (omega arith)
  up_body P m LifeSign six all = all false
  up_body P m TrainData six all = all true

  hears_up : (m : Message) (a : Answer) → WhileUp e event at b room m → ((train : Bool) → Answered a (UpAct m train))
      → Answered a (decide_of e event at b room)
  hears_up m a u all =
      by (on_awaited e at m.header m.body) a (hears_awaited m u.reading (u.is_data ∙ sym (ap awaited_by u.up)))
      (up_body (Answered a) m m.body u.is_data all)

  failed : (a : Answer) → Answered a (on_failure e a)
  unfolding performed
  failed a =
      by_test (Answered a) (ltb (e.line.failures + 1) e.settings.errors) (λ _. refl) (λ _. refl)

  of_class : (h : Header) (train : Bool) (k : Class) (a : Answer) → class_for e h ≡ k → Answered a (on_class k e at h train) → Answered a (on_up_message e at h train)
  of_class h train k a is so = ap (λ (c : Class). (performed e (on_class c e at h train) at).answer) is ∙ so

  fresh : (h : Header) → age_for e at h ≤ e.settings.age → fresh_for e at h ≡ true
  fresh h few = le-leb (age_for e at h) e.settings.age few

  delivered : (h : Header) (train : Bool) (a : Answer) → age_for e at h ≤ e.settings.age
      → delivered_answer (not (eqb (ahead_for e h - 1) 0)) ≡ a → Answered a (on_age e at h train)
  unfolding performed
  delivered h train a few is = rw (fresh h few) is

  too_old : (h : Header) (train : Bool) → e.settings.age < age_for e at h → Answered late (on_age e at h train)
  too_old h train old' = rw (lt-leb (age_for e at h) e.settings.age old') (failed late)

  -- ---- each answer

  no_rule : HasNoRule e event at b room → IsTaken e at room → Answered NoRule (decide_of e event at b room)
  unfolding performed on_event
  no_rule (inl (comes, role)) t =
      by _ NoRule (decides t ∙ ap (λ (v : Event). on_event e v at b) comes) (ap (λ (r : Role). (performed e (on_connect r) at).answer) role)
  no_rule (inr (inl (comes, idle))) t =
      by _ NoRule (decides t ∙ ap (λ (v : Event). on_event e v at b) comes) (ap (λ (l : Life). (performed e (on_disconnect (phase_of l)) at).answer) idle)
  no_rule (inr (inr (inl (j, low)))) t =
      by (on_message e at (parse b)) NoRule (judges_message j)
      (rw (eq-eqb (awaited_by e.life) 0 (⊎_elim (λ idle. ap awaited_by idle) (λ calling. ap awaited_by calling) low)))
  no_rule (inr (inr (inr (inl (j, low))))) t = by (on_data (phase_of e.life) e (length b)) NoRule (judges Data j _ refl) (data_low e.life low)
    where
      data_low : (l : Life) → (l ≡ Up → ⊥) → (performed e (on_data (phase_of l) e (length b)) at).answer ≡ NoRule
      data_low Idle low = refl
      data_low Calling low = refl
      data_low Opening low = refl
      data_low Settling low = refl
      data_low Greeted low = refl
      data_low Answering low = refl
      data_low Closing low = refl
      data_low Up low = absurd (low refl)
  no_rule (inr (inr (inr (inr (j, other))))) t = by (on_confirm e.life) NoRule (judges Confirm j _ refl) (unasked e.life other)
    where
      unasked : (l : Life) → (l ≡ Calling → ⊥) → (performed e (on_confirm l) at).answer ≡ NoRule
      unasked Idle other = refl
      unasked Calling other = absurd (other refl)
      unasked Opening other = refl
      unasked Settling other = refl
      unasked Greeted other = refl
      unasked Answering other = refl
      unasked Closing other = refl
      unasked Up other = refl

  silent : IsTaken e at room → IsOrdinary event → Overdue e at → Answered Silent (decide_of e event at b room)
  unfolding performed on_event
  silent t which over = by (on_event e event at b) Silent (decides t) (go which)
    where
      fell : (act : Act) → (performed e (in_time e at act) at).answer ≡ Silent
      fell act = rw (is_overdue e at over)

      go : IsOrdinary event → (performed e (on_event e event at b) at).answer ≡ Silent
      go (inl is) = ap (λ (v : Event). (performed e (on_event e v at b) at).answer) is ∙ fell _
      go (inr (inl is)) = ap (λ (v : Event). (performed e (on_event e v at b) at).answer) is ∙ fell _
      go (inr (inr (inl is))) = ap (λ (v : Event). (performed e (on_event e v at b) at).answer) is ∙ fell _
      go (inr (inr (inr is))) = ap (λ (v : Event). (performed e (on_event e v at b) at).answer) is ∙ fell _

  ticks : Judged e event at b room Tick → Answered Handled (decide_of e event at b room)
  unfolding performed on_event
  ticks j = by (on_tick (phase_of e.life) e at) Handled (judges Tick j _ refl) (of_life e.life)
    where
      idle : (r : Role) → (performed e (on_idle_tick r e at) at).answer ≡ Handled
      idle Initiator = by_test (Answered Handled) (may_ask e at) (λ _. refl) (λ _. refl)
      idle Called = refl

      of_life : (l : Life) → (performed e (on_tick (phase_of l) e at) at).answer ≡ Handled
      of_life Idle = idle e.role
      of_life Calling = refl
      of_life Opening = refl
      of_life Settling = refl
      of_life Greeted = refl
      of_life Answering = refl
      of_life Closing = refl
      of_life Up =
          by_test (Answered Handled) (eqb (waiting_in e.ring) 0) (λ _. by_test (Answered Handled) (life_sign_due e at) (λ _. refl) (λ _. refl)) (λ _. refl)

  takes_data : Judged e event at b room Data → e.life ≡ Up → HasGoodLength b → (e.line.busy ≡ true → waiting_in e.ring < places)
      → Answered Handled (decide_of e event at b room)
  unfolding performed
  takes_data j up good place = by (on_up_data e (length b)) Handled (judges_data j up) (rw (good_length b good) (of_mark e.line.busy place))
    where
      of_mark : (busy : Bool) → (busy ≡ true → waiting_in e.ring < places)
          → (performed e (cond busy (cond (ltb (waiting_in e.ring) places) (Say Hold) (Note QueueFull)) (Say Speak)) at).answer ≡ Handled
      of_mark true place = rw (lt-ltb (waiting_in e.ring) places (place refl))
      of_mark false place = refl

  handled : IsHandled e event at b room → IsTaken e at room → Answered Handled (decide_of e event at b room)
  unfolding performed on_event
  handled (inl (comes, role)) t =
      by _ Handled (decides t ∙ ap (λ (v : Event). on_event e v at b) comes) (ap (λ (r : Role). (performed e (on_connect r) at).answer) role)
  handled (inr (inl (comes, alive))) t =
      by _ Handled (decides t ∙ ap (λ (v : Event). on_event e v at b) comes)
      (ap (λ (x : Act). (performed e x at).answer) (not_idle e.life alive e))
  handled (inr (inr (inl j))) t = ticks j
  handled (inr (inr (inr (inl (j, calling))))) t =
      by (on_confirm e.life) Handled (judges Confirm j _ refl) (ap (λ (l : Life). (performed e (on_confirm l) at).answer) calling)
  handled (inr (inr (inr (inr (inl (j, up, good, place)))))) t = takes_data j up good place
  handled (inr (inr (inr (inr (inr (m, inl (s, right))))))) t =
      by (on_awaited e at m.header m.body) Handled (hears_awaited m s.reading s.awaited) (right_start m s m.body refl right)
  handled (inr (inr (inr (inr (inr (m, inr (u, one, few))))))) t =
      hears_up m Handled u
      (λ train. of_class m.header train Expected Handled (expected_class e.settings.jump (ahead_for e m.header) one)
      (delivered m.header train Handled few (rw one)))

  gapped : (m : Message) → WhileUp e event at b room m → IsGap e.settings.jump (ahead_for e m.header) → (a : Answer)
      → ((train : Bool) → Answered a (on_age e at m.header train)) → Answered a (decide_of e event at b room)
  gapped m u g a so = hears_up m a u (λ train. of_class m.header train Gap a (gap_class e.settings.jump (ahead_for e m.header) g) (so train))

  two_ahead : (d : ℕ) → 2 ≤ d → eqb (d - 1) 0 ≡ false
  two_ahead d two = ne_eqb (d - 1) 0 (λ z. omega arith)

  not_awaited : (m : Message) → Reads e event at b room m
      → ((phase_of e.life ≡ starting) × (e.life ≡ Calling → ⊥)
      × ((kind_of m.body ≡ awaited_by e.life → ⊥) ⊎ (ahead_for e m.header ≡ 1 → ⊥)))
      ⊎ ((e.life ≡ Up) × (kind_of m.body ≡ 6 → ⊥))
      → Answered NotAwaited (decide_of e event at b room)
  not_awaited m r (inl (low, other, why)) =
      ⊎_elim (λ unlike. hears_other m r (waits e.life low other) unlike)
      (λ apart. by_kind apart (eqb (kind_of m.body) (awaited_by e.life)) refl) why
    where
      waits : (l : Life) → phase_of l ≡ starting → (l ≡ Calling → ⊥) → awaited_by l ≡ 0 → ⊥
      waits Idle low other none = starting_awake Idle low refl
      waits Calling low other none = other refl
      waits Opening low other none = omega arith
      waits Settling low other none = omega arith
      waits Greeted low other none = omega arith
      waits Answering low other none = omega arith
      waits Closing low other none = omega arith
      waits Up low other none = omega arith

      by_kind : (ahead_for e m.header ≡ 1 → ⊥) → (t : Bool) → eqb (kind_of m.body) (awaited_by e.life) ≡ t
          → Answered NotAwaited (decide_of e event at b room)
      by_kind apart true is =
          let kind = eqb-true (kind_of m.body) (awaited_by e.life) is in
          by (on_awaited e at m.header m.body) NotAwaited (hears_awaited m r kind)
          (out_of_turn m.header m.body (λ six. starting_awaits e.life low (sym kind ∙ six)) apart)
      by_kind apart false is = hears_other m r (waits e.life low other) (eqb-false (kind_of m.body) (awaited_by e.life) is)
  not_awaited m r (inr (up, unlike)) =
      hears_other m r (λ none. let six = sym (ap awaited_by up) ∙ none in omega arith) (λ same. unlike (same ∙ ap awaited_by up))

  pub forced : (a : Answer) → Given e event at b room a → Answered a (decide_of e event at b room)
  unfolding performed decide_of
  forced Handled g = handled g.1 g.0
  forced OutOfRange g = absurd g
  forced ClockBack g = rw (le-ltb room least_room g.0, le-leb (2 ^ 31) (since_of at e.reading) g.1)
  forced NoRule g = no_rule g.1 g.0
  forced BadLength g = by (on_up_data e (length b)) BadLength (judges_data g.0 g.1) (rw (bad_length b g.2))
  forced QueueFull g =
      by (on_up_data e (length b)) QueueFull (judges_data g.0 g.1)
      (rw (good_length b g.2, g.3, le-ltb (waiting_in e.ring) places g.4))
  forced Malformed g =
      by (on_parsed e at (parse b)) Malformed (judges_message g.0 ∙ listens (parse b) g.1)
      (ap (λ (p : Option Message). (performed e (on_parsed e at p) at).answer) g.2)
  forced NotAwaited (m, r, why) = not_awaited m r why
  forced StartFailed (m, s, wrong) =
      by (on_awaited e at m.header m.body) StartFailed (hears_awaited m s.reading s.awaited) (wrong_start m s m.body refl wrong)
  forced old (m, u, d) =
      hears_up m old u (λ train. of_class m.header train Old old (old_class e.settings.jump (ahead_for e m.header) d) (failed old))
  forced lost (m, u, d) =
      hears_up m lost u (λ train. of_class m.header train Lost lost (lost_class e.settings.jump (ahead_for e m.header) d) refl)
  forced late (m, u, inl one, stale) =
      hears_up m late u
      (λ train. of_class m.header train Expected late (expected_class e.settings.jump (ahead_for e m.header) one) (too_old m.header train stale))
  forced late (m, u, inr g, stale) = gapped m u g late (λ train. too_old m.header train stale)
  forced Silent g = silent g.0 g.1 g.2
  forced gap (m, u, g, few) = gapped m u g gap (λ train. delivered m.header train gap few (rw (two_ahead (ahead_for e m.header) g.0)))
  forced NoRoom g = rw (lt-ltb room least_room g)
