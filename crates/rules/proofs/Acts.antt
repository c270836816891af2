-- From "for each act, from its grounds" to "for each event": the one walk through the tests of the rules.
use Rattle.std.specs.Prelude.{None, Option, Some}
use Prim.Native.Nat.{ℕ, ◌+◌}
use mathlib.Core.Bool.{Bool, true, false, false≢true}
use mathlib.Core.List.{List}
use mathlib.Core.Logic.{inl, inr}
use mathlib.Core.Path.{◌≡◌, refl, sym, ap, ◌∙◌}
use borrow.Author.Tests.{eqb-true, eqb-false, ltb-false}
use native.Mathlib.Omega.{arith}
use lib.Dec.{ltb, eqb}
use lib.ListN.{length}
use Rattle.judge.specs.Clock.{back_of, opposed_of}
use Rattle.judge.specs.declared.clock.Reading.{Reading}
use Rattle.judge.specs.declared.sequence.Class.{Class}
use Rattle.judge.specs.declared.sequence.Class.TheVariants.{Expected, Gap, Lost, Old}
use Rattle.queue.specs.Ring.{places, waiting_in}
use Rattle.wire.proofs.Tests.{by_test}
use Rattle.wire.specs.Message.{parse, kind_of}
use Rattle.wire.specs.declared.message.Header.{Header}
use Rattle.wire.specs.declared.message.Body.{Body}
use Rattle.wire.specs.declared.message.Body.TheVariants.{OffsetStart, OffsetAnsw1, OffsetAnsw2, OffsetEst, OffsetEnd, LifeSign, TrainData}
use Rattle.wire.specs.declared.message.Message.{Message as Received}
use Rattle.rules.specs.State.{phase_of, awaited_by}
use Rattle.rules.specs.Living.{overdue, overdue_in, may_ask, in_time, on_connect, on_disconnect, on_confirm, on_idle_tick}
use Rattle.rules.specs.Starting.{next_for, in_turn, measures}
use Rattle.rules.specs.Hearing.{class_for, fresh_for, on_failure, on_age, on_class, on_awaited, on_parsed, on_message}
use Rattle.rules.specs.Speaking.{life_sign_due, sendable, on_tick, on_data}
use Rattle.rules.specs.Decide.{on_event, decide_of, least_room}
use Rattle.rules.specs.Given.{IsOrdinary}
use Rattle.rules.specs.declared.answer.Answer.{Answer}
use Rattle.rules.specs.declared.answer.Answer.TheVariants.{Old as old, Late as late}
use Rattle.rules.specs.declared.act.Event.{Event}
use Rattle.rules.specs.declared.act.Event.TheVariants.{Tick, Connect, Confirm, Disconnect, Data, Message}
use Rattle.rules.specs.declared.act.Act.{Act}
use Rattle.rules.specs.declared.act.Act.TheVariants.{Stay, Note, Move, Start, Hear, Say}
use Rattle.rules.specs.declared.act.ConnectionMove.{ConnectionMove}
use Rattle.rules.specs.declared.act.Exchange.{Exchange}
use Rattle.rules.specs.declared.act.Verdict.{Verdict}
use Rattle.rules.specs.declared.act.Speech.{Speech}
use Rattle.rules.specs.declared.state.Role.{Role}
use Rattle.rules.specs.declared.state.Role.TheVariants.{Initiator, Called}
use Rattle.rules.specs.declared.state.Life.{Life}
use Rattle.rules.specs.declared.state.Life.TheVariants.{Idle, Calling, Opening, Settling, Greeted, Answering, Closing, Up}
use Rattle.rules.specs.declared.state.End.{End}
use Rattle.rules.proofs.Lives.{apart, apart_roles, waiter, waiter_is}
use Rattle.rules.proofs.Grounds.{Timely, Listening, Heard, Next, Upright, InReach, Failure, NoteGrounds, MoveGrounds, ExchangeGrounds, VerdictGrounds, SpeechGrounds, StayGrounds, IsTaken, body_of}
use Rattle.rules.proofs.Grounds.NoteGrounds.{idle_tick, starting_tick, connect_to_initiator, disconnect_at_rest, confirm_unasked, message_unawaited, data_too_early, bad_length, queue_full, malformed, other_kind, out_of_turn}
use Rattle.rules.proofs.Grounds.Failure.{is_old, is_late}
use Rattle.rules.proofs.Grounds.Fallen.{by_silence, by_start, by_loss, by_failure}
use Rattle.rules.proofs.Grounds.StayGrounds.{no_room, went_back}

-- of the act of an event that is taken: what is to be shown of each, from its grounds
pub record EachTaken (e : End) (event : Event) (at : Reading) (b : List ℕ) (P : Act → Type 0) : Type 0 where
  pub notes : (a : Answer) → NoteGrounds e event at b a → P (Note a)
  pub moves : (m : ConnectionMove) → MoveGrounds e event at b m → P (Move m)
  pub starts : (x : Exchange) → ExchangeGrounds e event at b x → P (Start x)
  pub hears : (v : Verdict) → VerdictGrounds e event at b v → P (Hear v)
  pub says : (s : Speech) → SpeechGrounds e event at b s → P (Say s)

module _ (e : End) (event : Event) (at : Reading) (b : List ℕ) (P : Act → Type 0) (each : EachTaken e event at b P) where
  living_by : (kind : ℕ) → (kind ≡ 0 → ⊥) → kind ≡ awaited_by e.life → e.life ≡ waiter kind
  living_by kind some is = waiter_is e.life (λ z. some (is ∙ z)) ∙ ap waiter (sym is)

  -- ---- overdue or in time

  alive : overdue e at ≡ true → e.life ≡ Idle → ⊥
  alive t idle = false≢true (ap (λ (l : Life). overdue_in (phase_of l) e at) (sym idle) ∙ t)

  in_time_lem : (what : Event) → event ≡ what → IsOrdinary event → (act : Act) → (Timely e event at b what → P act) → P (in_time e at act)
  in_time_lem what is sort act ok =
      by_test P (overdue e at) (λ t. each.moves _ (by_silence refl refl t (alive t) sort)) (λ t. ok (record { comes = is; timely = t }))

  -- ---- indications

  connect : event ≡ Connect → (r : Role) → e.role ≡ r → P (on_connect r)
  connect comes Initiator is = each.notes _ (connect_to_initiator refl comes is)
  connect comes Called is = each.moves _ (comes, is)

  disconnect : event ≡ Disconnect → (l : Life) → e.life ≡ l → P (on_disconnect (phase_of l))
  disconnect comes Idle is = each.notes _ (disconnect_at_rest refl comes is)
  disconnect comes Calling is = each.moves _ (comes, λ idle. apart Calling Idle refl (sym is ∙ idle))
  disconnect comes Opening is = each.moves _ (comes, λ idle. apart Opening Idle refl (sym is ∙ idle))
  disconnect comes Settling is = each.moves _ (comes, λ idle. apart Settling Idle refl (sym is ∙ idle))
  disconnect comes Greeted is = each.moves _ (comes, λ idle. apart Greeted Idle refl (sym is ∙ idle))
  disconnect comes Answering is = each.moves _ (comes, λ idle. apart Answering Idle refl (sym is ∙ idle))
  disconnect comes Closing is = each.moves _ (comes, λ idle. apart Closing Idle refl (sym is ∙ idle))
  disconnect comes Up is = each.moves _ (comes, λ idle. apart Up Idle refl (sym is ∙ idle))

  confirm : Timely e event at b Confirm → (l : Life) → e.life ≡ l → P (on_confirm l)
  confirm t Idle is = each.notes _ (confirm_unasked refl t (λ other. apart Idle Calling refl (sym is ∙ other)))
  confirm t Calling is = each.starts _ (t, is, refl)
  confirm t Opening is = each.notes _ (confirm_unasked refl t (λ other. apart Opening Calling refl (sym is ∙ other)))
  confirm t Settling is = each.notes _ (confirm_unasked refl t (λ other. apart Settling Calling refl (sym is ∙ other)))
  confirm t Greeted is = each.notes _ (confirm_unasked refl t (λ other. apart Greeted Calling refl (sym is ∙ other)))
  confirm t Answering is = each.notes _ (confirm_unasked refl t (λ other. apart Answering Calling refl (sym is ∙ other)))
  confirm t Closing is = each.notes _ (confirm_unasked refl t (λ other. apart Closing Calling refl (sym is ∙ other)))
  confirm t Up is = each.notes _ (confirm_unasked refl t (λ other. apart Up Calling refl (sym is ∙ other)))

  -- ---- ticks and user data

  idle_ticking : Timely e event at b Tick → e.life ≡ Idle → (r : Role) → e.role ≡ r → P (on_idle_tick r e at)
  idle_ticking t idle Initiator is =
      by_test P (may_ask e at) (λ may. each.moves _ (t, idle, is, may)) (λ not. each.notes _ (idle_tick refl t idle (λ _. not)))
  idle_ticking t idle Called is = each.notes _ (idle_tick refl t idle (λ other. absurd (apart_roles (sym is ∙ other))))

  up_tick : Upright e event at b Tick → P (on_tick (phase_of Up) e at)
  up_tick up =
      by_test P (eqb (waiting_in e.ring) 0)
      (λ t. by_test P (life_sign_due e at)
      (λ u. each.says _ (up, eqb-true (waiting_in e.ring) 0 t, u))
      (λ u. each.says _ (up, eqb-true (waiting_in e.ring) 0 t, u)))
      (λ t. each.says _ (up, eqb-false (waiting_in e.ring) 0 t))

  tick : Timely e event at b Tick → (l : Life) → e.life ≡ l → P (on_tick (phase_of l) e at)
  tick t Idle is = idle_ticking t is e.role refl
  tick t Calling is = each.notes _ (starting_tick refl t (ap phase_of is))
  tick t Opening is = each.notes _ (starting_tick refl t (ap phase_of is))
  tick t Settling is = each.notes _ (starting_tick refl t (ap phase_of is))
  tick t Greeted is = each.notes _ (starting_tick refl t (ap phase_of is))
  tick t Answering is = each.notes _ (starting_tick refl t (ap phase_of is))
  tick t Closing is = each.notes _ (starting_tick refl t (ap phase_of is))
  tick t Up is = up_tick (record { comes = t.comes; timely = t.timely; living = is })

  up_data : Upright e event at b Data → P (on_data (phase_of Up) e (length b))
  up_data up =
      by_test P (sendable (length b))
      (λ t. by_test P e.line.busy
      (λ u. by_test P (ltb (waiting_in e.ring) places) (λ v. each.says _ (up, t, u, v)) (λ v. each.notes _ (queue_full refl up t u v)))
      (λ u. each.says _ (up, t, u)))
      (λ t. each.notes _ (bad_length refl up t))

  user_data : Timely e event at b Data → (l : Life) → e.life ≡ l → P (on_data (phase_of l) e (length b))
  user_data t Idle is = each.notes _ (data_too_early refl t (λ up. apart Idle Up refl (sym is ∙ up)))
  user_data t Calling is = each.notes _ (data_too_early refl t (λ up. apart Calling Up refl (sym is ∙ up)))
  user_data t Opening is = each.notes _ (data_too_early refl t (λ up. apart Opening Up refl (sym is ∙ up)))
  user_data t Settling is = each.notes _ (data_too_early refl t (λ up. apart Settling Up refl (sym is ∙ up)))
  user_data t Greeted is = each.notes _ (data_too_early refl t (λ up. apart Greeted Up refl (sym is ∙ up)))
  user_data t Answering is = each.notes _ (data_too_early refl t (λ up. apart Answering Up refl (sym is ∙ up)))
  user_data t Closing is = each.notes _ (data_too_early refl t (λ up. apart Closing Up refl (sym is ∙ up)))
  user_data t Up is = up_data (record { comes = t.comes; timely = t.timely; living = is })

  -- ---- messages while Up

  failing : (a : Answer) → Failure e event at b a → P (on_failure e a)
  failing a why =
      by_test P (ltb (e.line.failures + 1) e.settings.errors) (λ t. each.hears _ (why, refl, t))
      (λ t. each.moves _ (by_failure refl why t))

  aging : (h : Header) (train : Bool) → Heard e event at b Up h (body_of e event at b train) → InReach e event at b h → P (on_age e at h train)
  aging h train hears near =
      by_test P (fresh_for e at h) (λ t. each.hears _ (hears, refl, near, t)) (λ t. failing late (is_late h train refl hears near t))

  judging : (h : Header) (train : Bool) → Heard e event at b Up h (body_of e event at b train) → (k : Class) → class_for e h ≡ k
      → P (on_class k e at h train)
  judging h train hears Expected class = aging h train hears (inl class)
  judging h train hears Gap class = aging h train hears (inr class)
  judging h train hears Lost class = each.moves _ (by_loss h train refl refl hears class)
  judging h train hears Old class = failing old (is_old h train refl hears class)

  -- ---- messages of the start

  turn : (life : Life) (h : Header) (body : Body) (act : Act) → phase_of life ≡ phase_of Opening → kind_of body ≡ awaited_by life
      → Heard e event at b life h body → (Next e event at b life h body → P act) → P (in_turn e h act)
  turn life h body act low kind hears ok =
      by_test P (next_for e h) (λ t. ok (record { hearing = hears; next = t })) (λ t. each.notes _ (out_of_turn life h body refl hears low t kind))

  awaited : Timely e event at b Message → (h : Header) (body : Body) → parse b ≡ Some (record { header = h; body = body })
      → kind_of body ≡ awaited_by e.life → P (on_awaited e at h body)
  awaited t h OffsetStart reads kind =
      turn Greeted h OffsetStart _ refl refl
      (record { comes = t.comes; timely = t.timely; living = living_by 1 (λ z. omega arith) kind; reads = reads })
      (λ n. each.starts _ (h, refl, n))
  awaited t h OffsetAnsw1 reads kind =
      turn Opening h OffsetAnsw1 _ refl refl
      (record { comes = t.comes; timely = t.timely; living = living_by 2 (λ z. omega arith) kind; reads = reads })
      (λ n. by_test P (measures e at h) (λ t. each.starts _ (h, refl, n, t))
      (λ t. each.moves _ (by_start Opening h OffsetAnsw1 refl refl refl n refl t)))
  awaited t h OffsetAnsw2 reads kind =
      turn Answering h OffsetAnsw2 _ refl refl
      (record { comes = t.comes; timely = t.timely; living = living_by 3 (λ z. omega arith) kind; reads = reads })
      (λ n. by_test P (measures e at h) (λ t. each.starts _ (h, refl, n, t))
      (λ t. each.moves _ (by_start Answering h OffsetAnsw2 refl refl refl n refl t)))
  awaited t h (OffsetEst minimum maximum) reads kind =
      turn Settling h (OffsetEst minimum maximum) _ refl refl
      (record { comes = t.comes; timely = t.timely; living = living_by 4 (λ z. omega arith) kind; reads = reads })
      (λ n. by_test P (opposed_of minimum e.line.offsets.maximum) (λ t. each.starts _ (h, minimum, maximum, refl, n, t))
      (λ t. each.moves _ (by_start Settling h (OffsetEst minimum maximum) refl refl refl n refl t)))
  awaited t h OffsetEnd reads kind =
      turn Closing h OffsetEnd _ refl refl
      (record { comes = t.comes; timely = t.timely; living = living_by 5 (λ z. omega arith) kind; reads = reads })
      (λ n. each.starts _ n)
  awaited t h LifeSign reads kind =
      judging h false (record { comes = t.comes; timely = t.timely; living = living_by 6 (λ z. omega arith) kind; reads = reads })
      (class_for e h) refl
  awaited t h TrainData reads kind =
      judging h true (record { comes = t.comes; timely = t.timely; living = living_by 6 (λ z. omega arith) kind; reads = reads })
      (class_for e h) refl

  parsed : Listening e event at b → (p : Option Received) → parse b ≡ p → P (on_parsed e at p)
  parsed l (Some m) reads =
      by_test P (eqb (kind_of m.body) (awaited_by e.life))
      (λ t. awaited l.coming m.header m.body reads (eqb-true (kind_of m.body) (awaited_by e.life) t))
      (λ t. each.notes _ (other_kind m refl l reads (eqb-false (kind_of m.body) (awaited_by e.life) t)))
  parsed l None reads = each.notes _ (malformed refl l reads)

  message : Timely e event at b Message → P (on_message e at (parse b))
  message t =
      by_test P (eqb (awaited_by e.life) 0) (λ z. each.notes _ (message_unawaited refl t (eqb-true (awaited_by e.life) 0 z)))
      (λ z. parsed (record { coming = t; awaits = eqb-false (awaited_by e.life) 0 z }) (parse b) refl)

on_event_lem : (e : End) (event : Event) (at : Reading) (b : List ℕ) (P : Act → Type 0) → EachTaken e event at b P → P (on_event e event at b)
unfolding on_event
on_event_lem e Tick at b P each = in_time_lem e Tick at b P each Tick refl (inl refl) _ (λ t. tick e Tick at b P each t e.life refl)
on_event_lem e Connect at b P each = connect e Connect at b P each refl e.role refl
on_event_lem e Confirm at b P each = in_time_lem e Confirm at b P each Confirm refl (inr (inl refl)) _ (λ t. confirm e Confirm at b P each t e.life refl)
on_event_lem e Disconnect at b P each = disconnect e Disconnect at b P each refl e.life refl
on_event_lem e Data at b P each = in_time_lem e Data at b P each Data refl (inr (inr (inl refl))) _ (λ t. user_data e Data at b P each t e.life refl)
on_event_lem e Message at b P each = in_time_lem e Message at b P each Message refl (inr (inr (inr refl))) _ (λ t. message e Message at b P each t)

-- what holds of every act, by its grounds, holds of what any event comes to
pub by_act : (e : End) (event : Event) (at : Reading) (b : List ℕ) (room : ℕ) (P : Act → Type 0)
    → ((a : Answer) → StayGrounds e event at b room a → P (Stay a)) → (IsTaken e event at b room → EachTaken e event at b P)
    → P (decide_of e event at b room)
unfolding decide_of
by_act e event at b room P stays each =
    by_test P (ltb room least_room) (λ t. stays _ (no_room refl t))
    (λ t. by_test P (back_of at e.reading)
    (λ u. stays _ (went_back refl (ltb-false room least_room t) u))
    (λ u. on_event_lem e event at b P (each (record { fits = ltb-false room least_room t; forth = u }))))
