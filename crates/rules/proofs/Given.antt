-- Each answer is given exactly when the table says: what it is given for, by the grounds of its act; and what it must be, by the tests.
use Prim.Native.Nat.{ℕ, ◌-◌, ◌^◌, ◌≤◌, ◌<◌}
use native.Mathlib.Omega.{arith}
use mathlib.Core.Bool.{Bool, true, false, not, cond, ◌&&◌, and-eq-true_iff, false≢true}
use mathlib.Core.List.{List}
use mathlib.Core.Logic.{◌⊎◌, inl, inr, ⊎_elim}
use mathlib.Core.Path.{◌≡◌, refl, sym, ap, subst, ◌∙◌}
use borrow.Author.Tests.{le-leb, leb-true, leb-false, ltb-true, ltb-false, eqb-true, eqb-false, eq-eqb, ne_eqb}
use lib.Dec.{leb, eqb}
use lib.ListN.{length}
use Rattle.judge.specs.Clock.{since_of, passed_of, same_of, narrow_of, offsets_by, spread_of}
use Rattle.judge.specs.Difference.{diff}
use Rattle.judge.specs.Sequence.{class_at}
use Rattle.judge.specs.declared.clock.Reading.{Reading}
use Rattle.judge.specs.declared.sequence.Class.{Class}
use Rattle.judge.specs.declared.sequence.Class.TheVariants.{Expected, Gap, Lost, Old}
use Rattle.queue.specs.Ring.{places, waiting_in}
use Rattle.wire.proofs.Carrying.{carried_is, is_carried}
use Rattle.wire.proofs.Tests.{by_test}
use Rattle.wire.specs.Message.{kind_of}
use Rattle.wire.specs.declared.message.Header.{Header}
use Rattle.wire.specs.declared.message.Body.{Body}
use Rattle.wire.specs.declared.message.Body.TheVariants.{OffsetStart, OffsetAnsw1, OffsetAnsw2, OffsetEst, OffsetEnd, LifeSign, TrainData}
use Rattle.rules.specs.State.{phase_of, awaited_by}
use Rattle.rules.specs.Living.{overdue, overdue_in}
use Rattle.rules.specs.Starting.{measures}
use Rattle.rules.specs.Hearing.{ahead_for, class_for, age_for, fresh_for}
use Rattle.rules.specs.Speaking.{sendable}
use Rattle.rules.specs.Decide.{least_room, decide_of}
use Rattle.rules.specs.Given.{IsTaken, Overdue, Judged, Reads, InStart, WhileUp, Mismeasured, IsWrong, IsGap, IsLost, IsOld, HasGoodLength, Given}
use Rattle.rules.specs.Perform.{performed}
use Rattle.rules.specs.Talking.{delivered_answer}
use Rattle.rules.specs.declared.answer.Answer.{Answer}
use Rattle.rules.specs.declared.answer.Answer.TheVariants.{Handled, NotAwaited, StartFailed, Silent, Late as late, Old as old, Lost as lost}
use Rattle.rules.specs.declared.act.Event.{Event}
use Rattle.rules.specs.declared.act.Event.TheVariants.{Tick, Confirm, Data, Message as message}
use Rattle.rules.specs.declared.act.Act.{Act}
use Rattle.rules.specs.declared.act.Act.TheVariants.{Stay, Move, Start, Hear, Say}
use Rattle.rules.specs.declared.act.Delivery.{Delivery}
use Rattle.rules.specs.declared.act.ConnectionMove.{ConnectionMove}
use Rattle.rules.specs.declared.act.ConnectionMove.TheVariants.{Ask, Accept, Lose, Fall}
use Rattle.rules.specs.declared.act.Exchange.{Exchange}
use Rattle.rules.specs.declared.act.Exchange.TheVariants.{Begin, Greet, Measure, Estimate, Finish, Rise}
use Rattle.rules.specs.declared.act.Verdict.{Verdict}
use Rattle.rules.specs.declared.act.Verdict.TheVariants.{Deliver, Report}
use Rattle.rules.specs.declared.act.Speech.{Speech}
use Rattle.rules.specs.declared.act.Speech.TheVariants.{Quiet, Beat, Speak, Drain, Hold}
use Rattle.rules.specs.declared.state.Life.{Life}
use Rattle.rules.specs.declared.state.Life.TheVariants.{Idle, Calling, Opening, Settling, Greeted, Answering, Closing, Up}
use Rattle.rules.specs.declared.state.Phase.{Phase}
use Rattle.rules.specs.declared.state.Phase.TheVariants.{Starting as starting}
use Rattle.rules.specs.declared.state.End.{End}
use Rattle.rules.proofs.Acts.{EachTaken, by_act}
use Rattle.rules.proofs.Grounds.{Timely, Heard, Next, Upright, InReach, Mismatch, Failure, Fallen, NoteGrounds, MoveGrounds, ExchangeGrounds, VerdictGrounds, SpeechGrounds, StayGrounds, IsTaken as Taken, body_of}
use Rattle.rules.proofs.Grounds.NoteGrounds.{idle_tick, starting_tick, connect_to_initiator, disconnect_at_rest, confirm_unasked, message_unawaited, data_too_early, bad_length, queue_full, malformed, other_kind, out_of_turn}
use Rattle.rules.proofs.Grounds.Failure.{is_old, is_late}
use Rattle.rules.proofs.Grounds.Fallen.{by_silence, by_start, by_loss, by_failure}
use Rattle.rules.proofs.Grounds.StayGrounds.{no_room, went_back}
use Rattle.rules.proofs.Lives.{apart}

-- one of two tests fails
either_fails : (x y : Bool) → x && y ≡ false → (x ≡ false) ⊎ (y ≡ false)
either_fails true y f = inr f
either_fails false y f = inl refl

-- ---- limits

module _ (e : End) (at : Reading) where
  late_start : (l : Life) → e.life ≡ l → phase_of l ≡ starting → passed_of at e.line.began e.settings.wait ≡ true → Overdue e at
  late_start l is low t = inr (ap phase_of is ∙ low, leb-true e.settings.wait (since_of at e.line.began) t)

  pub overdue_in_lem : (l : Life) → e.life ≡ l → overdue_in (phase_of l) e at ≡ true → Overdue e at
  overdue_in_lem Idle is t = absurd (false≢true t)
  overdue_in_lem Calling is t = late_start Calling is refl t
  overdue_in_lem Opening is t = late_start Opening is refl t
  overdue_in_lem Settling is t = late_start Settling is refl t
  overdue_in_lem Greeted is t = late_start Greeted is refl t
  overdue_in_lem Answering is t = late_start Answering is refl t
  overdue_in_lem Closing is t = late_start Closing is refl t
  overdue_in_lem Up is t = inl (is, leb-true e.settings.silence (since_of at e.line.times.heard) t)

  pub is_overdue : Overdue e at → overdue e at ≡ true
  is_overdue (inl (up, long)) =
      ap (λ (l : Life). overdue_in (phase_of l) e at) up ∙ le-leb e.settings.silence (since_of at e.line.times.heard) long
  is_overdue (inr (low, long)) =
      ap (λ (p : Phase). overdue_in p e at) low ∙ le-leb e.settings.wait (since_of at e.line.began) long

  in_time_lem : overdue e at ≡ false → Overdue e at → ⊥
  in_time_lem f o = false≢true (sym f ∙ is_overdue o)

-- ---- from the grounds to the table

-- a life that waits for a message is a starting one but Calling, or Up
awaits_sort : (l : Life) → (awaited_by l ≡ 0 → ⊥) → ((phase_of l ≡ starting) × (l ≡ Calling → ⊥)) ⊎ (l ≡ Up)
awaits_sort Idle some = absurd (some refl)
awaits_sort Calling some = absurd (some refl)
awaits_sort Opening some = inl (refl, apart Opening Calling refl)
awaits_sort Settling some = inl (refl, apart Settling Calling refl)
awaits_sort Greeted some = inl (refl, apart Greeted Calling refl)
awaits_sort Answering some = inl (refl, apart Answering Calling refl)
awaits_sort Closing some = inl (refl, apart Closing Calling refl)
awaits_sort Up some = inr refl

awaits_none : (l : Life) → awaited_by l ≡ 0 → (l ≡ Idle) ⊎ (l ≡ Calling)
awaits_none Idle none = inl refl
awaits_none Calling none = inr refl
awaits_none Opening none = absurd (omega arith)
awaits_none Settling none = absurd (omega arith)
awaits_none Greeted none = absurd (omega arith)
awaits_none Answering none = absurd (omega arith)
awaits_none Closing none = absurd (omega arith)
awaits_none Up none = absurd (omega arith)

pub kind_some : (body : Body) → kind_of body ≡ 0 → ⊥
kind_some OffsetStart z = omega arith
kind_some OffsetAnsw1 z = omega arith
kind_some OffsetAnsw2 z = omega arith
kind_some (OffsetEst minimum maximum) z = omega arith
kind_some OffsetEnd z = omega arith
kind_some LifeSign z = omega arith
kind_some TrainData z = omega arith

-- the life that waits for a kind is not Calling
not_calling : (l : Life) (body : Body) → kind_of body ≡ awaited_by l → l ≡ Calling → ⊥
not_calling l body kind is = kind_some body (kind ∙ ap awaited_by is)

data_kind : (train : Bool) → kind_of (cond train TrainData LifeSign) ≡ 6
data_kind true = refl
data_kind false = refl

-- ---- classes

-- what a class says of d
abbrev Says : ℕ → ℕ → Class → Type 0
Says limit d Expected = d ≡ 1
Says limit d Gap = IsGap limit d
Says limit d Lost = IsLost limit d
Says limit d Old = IsOld d

class_says : (limit d : ℕ) → Says limit d (class_at d limit)
class_says limit d =
    by_test (Says limit d) (eqb d 0) (λ t. inl (eqb-true d 0 t))
    (λ t. by_test (Says limit d) (eqb d 1) (λ u. eqb-true d 1 u)
    (λ u. by_test (Says limit d) (leb 32_768 d) (λ v. inr (leb-true 32_768 d v))
    (λ v.
    let zero' : d ≡ 0 → ⊥ = eqb-false d 0 t in
    let one' : d ≡ 1 → ⊥ = eqb-false d 1 u in
    let half : d < 32_768 = leb-false 32_768 d v in
    by_test (Says limit d) (leb d limit) (λ w. (some zero' one', leb-true d limit w, half))
    (λ w. (some zero' one', leb-false d limit w, half)))))
  where
    some : (d ≡ 0 → ⊥) → (d ≡ 1 → ⊥) → 2 ≤ d
    some zero' one' = omega arith

class_is : (e : End) (h : Header) (k : Class) → class_for e h ≡ k → Says e.settings.jump (ahead_for e h) k
class_is e h k is = subst (Says e.settings.jump (ahead_for e h)) is (class_says e.settings.jump (ahead_for e h))

module _ (e : End) (event : Event) (at : Reading) (b : List ℕ) (room : ℕ) (t : Taken e event at b room) where
  so_taken : IsTaken e at room
  so_taken = record { fits = t.fits; forth = leb-false (2 ^ 31) (since_of at e.reading) t.forth }

  judging : (what : Event) → event ≡ what → overdue e at ≡ false → Judged e event at b room what
  judging what comes timely = record { taken = so_taken; comes = comes; timely = in_time_lem e at timely }

  judged_up : (what : Event) → Upright e event at b what → Judged e event at b room what
  judged_up what u = judging what u.comes u.timely

  so_timely : (what : Event) → Timely e event at b what → Judged e event at b room what
  so_timely what y = judging what y.comes y.timely

  so_reads : (l : Life) (h : Header) (body : Body) → Heard e event at b l h body → Reads e event at b room (record { header = h; body = body })
  so_reads l h body hears = record { judged = judging message hears.comes hears.timely; reads = hears.reads }

  so_up : (h : Header) (train : Bool) → Heard e event at b Up h (body_of e event at b train)
      → WhileUp e event at b room (record { header = h; body = body_of e event at b train })
  so_up h train hears = record { reading = so_reads Up h _ hears; up = hears.living; is_data = data_kind train }

  so_start : (l : Life) (h : Header) (body : Body) → phase_of l ≡ starting → kind_of body ≡ awaited_by l → Next e event at b l h body
      → InStart e event at b room (record { header = h; body = body })
  so_start l h body low kind n =
      record {
        reading = so_reads l h body n.hearing;
        starts = ap phase_of n.hearing.living ∙ low;
        awaited = kind ∙ ap awaited_by (sym n.hearing.living);
        next = eqb-true (ahead_for e h) 1 n.next;
      }

  -- ---- lengths

  good_length : sendable (length b) ≡ true → HasGoodLength b
  good_length s = carried_is b s

  no_good_length : sendable (length b) ≡ false → HasGoodLength b → ⊥
  no_good_length s good = false≢true (sym s ∙ is_carried b good.0 good.1)

  -- ---- the clock start

  unmeasured : (h : Header) → measures e at h ≡ false → Mismeasured e at h
  unmeasured h f =
      ⊎_elim (λ s. inl (eqb-false h.stamps.echo.0 e.line.offsets.since.0 s))
      (λ n. inr (leb-false (spread_of (offsets_by h.stamps at)) e.settings.spread n))
      (either_fails (same_of h.stamps.echo e.line.offsets.since) (narrow_of (offsets_by h.stamps at) e.settings.spread) f)

  wrong_so : (h : Header) (body : Body) → Mismatch e event at b h body → IsWrong e at h body
  wrong_so h OffsetStart w = w
  wrong_so h OffsetAnsw1 w = unmeasured h w
  wrong_so h OffsetAnsw2 w = unmeasured h w
  wrong_so h (OffsetEst minimum maximum) w = eqb-false minimum.0 (diff 32 0 e.line.offsets.maximum.0) w
  wrong_so h OffsetEnd w = w
  wrong_so h LifeSign w = w
  wrong_so h TrainData w = w

  -- ---- each act

  abbrev Fits : Act → Type 0
  Fits act = Given e event at b room (performed e act at).answer

  being : (a c : Answer) → a ≡ c → Given e event at b room c → Given e event at b room a
  being a c is g = subst (Given e event at b room) (sym is) g

  note_given : (a : Answer) → NoteGrounds e event at b a → Given e event at b room a
  note_given a (idle_tick is y idle early) = being a _ is (so_taken, inr (inr (inl (so_timely Tick y))))
  note_given a (starting_tick is y phase) = being a _ is (so_taken, inr (inr (inl (so_timely Tick y))))
  note_given a (connect_to_initiator is comes role) = being a _ is (so_taken, inl (comes, role))
  note_given a (disconnect_at_rest is comes idle) = being a _ is (so_taken, inr (inl (comes, idle)))
  note_given a (confirm_unasked is y other) = being a _ is (so_taken, inr (inr (inr (inr (so_timely Confirm y, other)))))
  note_given a (message_unawaited is y none) =
      being a _ is (so_taken, inr (inr (inl (so_timely message y, awaits_none e.life none))))
  note_given a (data_too_early is y low) = being a _ is (so_taken, inr (inr (inr (inl (so_timely Data y, low)))))
  note_given a (bad_length is up bad) = being a _ is (judged_up Data up, up.living, no_good_length bad)
  note_given a (queue_full is up good busy full) =
      being a _ is (judged_up Data up, up.living, good_length good, busy, ltb-false (waiting_in e.ring) places full)
  note_given a (malformed is l reads) = being a _ is (so_timely message l.coming, l.awaits, reads)
  note_given a (other_kind m is l reads other) =
      let r : Reads e event at b room m = record { judged = so_timely message l.coming; reads = reads } in
      being a NotAwaited is (
        m,
        r,
        ⊎_elim (λ s. inl (s.0, s.1, inl other)) (λ up. inr (up, λ six. other (six ∙ sym (ap awaited_by up))))
            (awaits_sort e.life l.awaits),
      )
  note_given a (out_of_turn life h body is hears low turn kind) =
      being a NotAwaited is (
        record { header = h; body = body },
        so_reads life h body hears,
        inl (ap phase_of hears.living ∙ low, λ c. not_calling life body kind (sym hears.living ∙ c), inr (eqb-false (ahead_for e h) 1 turn)),
      )

  failure_given : (a : Answer) → Failure e event at b a → Given e event at b room a
  failure_given a (is_old h train is hears class) = being a old is (_, so_up h train hears, class_is e h Old class)
  failure_given a (is_late h train is hears near stale) =
      being a late is (
        _,
        so_up h train hears,
        ⊎_elim (λ k. inl (class_is e h Expected k)) (λ k. inr (class_is e h Gap k)) near,
        leb-false (age_for e at h) e.settings.age stale,
      )

  fall_given : (a : Answer) (error : Bool) → Fallen e event at b a error → Given e event at b room a
  fall_given a error (by_silence is quiet over alive sort) = being a Silent is (so_taken, sort, overdue_in_lem e at e.life refl over)
  fall_given a error (by_start life h body is quiet low next kind wrong) =
      being a StartFailed is (_, so_start life h body low kind next, wrong_so h body wrong)
  fall_given a error (by_loss h train is quiet hears class) = being a lost is (_, so_up h train hears, class_is e h Lost class)
  fall_given a error (by_failure loud why full) = failure_given a why

  handled_start : (l : Life) (h : Header) (body : Body) → phase_of l ≡ starting → kind_of body ≡ awaited_by l → Next e event at b l h body
      → (IsWrong e at h body → ⊥) → Given e event at b room Handled
  handled_start l h body low kind n right =
      (so_taken, inr (inr (inr (inr (inr (record { header = h; body = body }, inl (so_start l h body low kind n, right)))))))

  well_measured : (h : Header) → measures e at h ≡ true → Mismeasured e at h → ⊥
  well_measured h m (inl other) =
      other (eqb-true _ _ ((and-eq-true_iff (same_of h.stamps.echo e.line.offsets.since) (narrow_of (offsets_by h.stamps at) e.settings.spread)).0 m).0)
  well_measured h m (inr wide) =
      let n = leb-true (spread_of (offsets_by h.stamps at)) e.settings.spread
      ((and-eq-true_iff (same_of h.stamps.echo e.line.offsets.since) (narrow_of (offsets_by h.stamps at) e.settings.spread)).0 m).1 in
      omega arith

  start_given : (x : Exchange) → ExchangeGrounds e event at b x → Fits (Start x)
  unfolding performed
  start_given (Begin goes) g = (so_taken, inr (inr (inr (inl (so_timely Confirm g.0, g.1)))))
  start_given (Greet s) g = handled_start Greeted g.0 OffsetStart refl refl g.2 (λ w. w)
  start_given (Measure m) g = handled_start Opening g.0 OffsetAnsw1 refl refl g.2 (well_measured g.0 g.3)
  start_given (Estimate m) g = handled_start Answering g.0 OffsetAnsw2 refl refl g.2 (well_measured g.0 g.3)
  start_given (Finish s) g =
      handled_start Settling g.0 (OffsetEst g.1 g.2) refl refl g.4 (λ other. other (eqb-true _ _ g.5))
  start_given (Rise h) g = handled_start Closing h OffsetEnd refl refl g (λ w. w)

  move_given : (m : ConnectionMove) → MoveGrounds e event at b m → Fits (Move m)
  unfolding performed
  move_given Ask g = (so_taken, inr (inr (inl (so_timely Tick g.0))))
  move_given Accept g = (so_taken, inl g)
  move_given Lose g = (so_taken, inr (inl g))
  move_given (Fall answer error) g = fall_given answer error g

  say_given : (s : Speech) → SpeechGrounds e event at b s → Fits (Say s)
  unfolding performed
  say_given Quiet g = (so_taken, inr (inr (inl (judged_up Tick g.0))))
  say_given Beat g = (so_taken, inr (inr (inl (judged_up Tick g.0))))
  say_given Speak g =
      (so_taken, inr (inr (inr (inr (inl (judged_up Data g.0, g.0.living, good_length g.1, λ busy. absurd (false≢true (sym g.2 ∙ busy))))))))
  say_given Drain g = (so_taken, inr (inr (inl (judged_up Tick g.0))))
  say_given Hold g =
      (so_taken, inr (inr (inr (inr (inl (judged_up Data g.0, g.0.living, good_length g.1, λ _. ltb-true (waiting_in e.ring) places g.3))))))

  -- a delivery skipped something exactly where there was a gap
  delivered_given : (h : Header) (train : Bool) (skipped : ℕ) → skipped ≡ ahead_for e h - 1
      → Heard e event at b Up h (body_of e event at b train) → InReach e event at b h → fresh_for e at h ≡ true
      → Given e event at b room (delivered_answer (not (eqb skipped 0)))
  delivered_given h train skipped is hears (inl k) fresh =
      let d = class_is e h Expected k in
      let none : eqb skipped 0 ≡ true = eq-eqb skipped 0 (omega arith) in
      subst (λ (x : Bool). Given e event at b room (delivered_answer (not x))) (sym none)
      (so_taken, inr (inr (inr (inr (inr (_, inr (so_up h train hears, d, leb-true (age_for e at h) e.settings.age fresh)))))))
  delivered_given h train skipped is hears (inr k) fresh =
      let d = class_is e h Gap k in
      let some : eqb skipped 0 ≡ false = ne_eqb skipped 0 (λ z. let two = d.0 in omega arith) in
      subst (λ (x : Bool). Given e event at b room (delivered_answer (not x))) (sym some)
      (_, so_up h train hears, d, leb-true (age_for e at h) e.settings.age fresh)

  hear_given : (v : Verdict) → VerdictGrounds e event at b v → Fits (Hear v)
  unfolding performed
  hear_given (Deliver d) g = delivered_given d.header d.train d.skipped (ap (λ (x : Delivery). x.skipped) g.1) g.0 g.2 g.3
  hear_given (Report answer failures) g = failure_given answer g.0

  each_given : EachTaken e event at b Fits
  unfolding performed
  each_given = record { notes = note_given; moves = move_given; starts = start_given; hears = hear_given; says = say_given }

stay_given : (e : End) (event : Event) (at : Reading) (b : List ℕ) (room : ℕ) (a : Answer) → StayGrounds e event at b room a
    → Given e event at b room (performed e (Stay a) at).answer
unfolding performed
stay_given e event at b room a (no_room is short) = subst (Given e event at b room) (sym is) (ltb-true room least_room short)
stay_given e event at b room a (went_back is fits back) =
    subst (Given e event at b room) (sym is) (fits, leb-true (2 ^ 31) (since_of at e.reading) back)

-- the answer to any event has its condition
pub has_reason : (e : End) (event : Event) (at : Reading) (b : List ℕ) (room : ℕ)
    → Given e event at b room (performed e (decide_of e event at b room) at).answer
has_reason e event at b room =
    by_act e event at b room (λ act. Given e event at b room (performed e act at).answer) (stay_given e event at b room)
    (each_given e event at b room)
