-- What holds when a rule applies: for each act the facts that lead to it.
use Rattle.std.specs.Prelude.{None, Some}
use Prim.Native.Nat.{ℕ, ◌+◌, ◌≤◌}
use mathlib.Core.Bool.{Bool, true, false, cond}
use mathlib.Core.List.{List}
use mathlib.Core.Logic.{◌⊎◌}
use mathlib.Core.Path.{◌≡◌}
use lib.Dec.{ltb}
use lib.ListN.{length}
use Rattle.judge.specs.Clock.{back_of, opposed_of}
use Rattle.judge.specs.declared.clock.Reading.{Reading}
use Rattle.judge.specs.declared.clock.Offset.{Offset}
use Rattle.judge.specs.declared.sequence.Class.TheVariants.{Expected, Gap, Lost, Old}
use Rattle.queue.specs.Ring.{places, waiting_in}
use Rattle.wire.specs.Message.{parse, kind_of}
use Rattle.wire.specs.declared.message.Header.{Header}
use Rattle.wire.specs.declared.message.Body.{Body}
use Rattle.wire.specs.declared.message.Body.TheVariants.{OffsetStart, OffsetAnsw1, OffsetAnsw2, OffsetEst, OffsetEnd, LifeSign, TrainData}
use Rattle.wire.specs.declared.message.Message.{Message}
use Rattle.rules.specs.State.{phase_of, awaited_by}
use Rattle.rules.specs.Living.{overdue, may_ask}
use Rattle.rules.specs.Starting.{next_for, measures, swap_of, measurement_of, estimate_of, offsets_from}
use Rattle.rules.specs.Hearing.{class_for, fresh_for, delivery_of}
use Rattle.rules.specs.Speaking.{life_sign_due, sendable}
use Rattle.rules.specs.Decide.{least_room}
use Rattle.rules.specs.Given.{IsOrdinary}
use Rattle.rules.specs.declared.answer.Answer.{Answer}
use Rattle.rules.specs.declared.answer.Answer.TheVariants.{Handled, ClockBack, NoRule, BadLength, QueueFull, Malformed, NotAwaited, StartFailed, Old as old, Lost as lost, Late as late, Silent, NoRoom}
use Rattle.rules.specs.declared.act.Event.{Event}
use Rattle.rules.specs.declared.act.Event.TheVariants.{Tick, Connect, Confirm, Disconnect, Data, Message as message}
use Rattle.rules.specs.declared.act.ConnectionMove.{ConnectionMove}
use Rattle.rules.specs.declared.act.ConnectionMove.TheVariants.{Ask, Accept, Lose, Fall}
use Rattle.rules.specs.declared.act.Exchange.{Exchange}
use Rattle.rules.specs.declared.act.Exchange.TheVariants.{Begin, Greet, Measure, Estimate, Finish, Rise}
use Rattle.rules.specs.declared.act.Verdict.{Verdict}
use Rattle.rules.specs.declared.act.Verdict.TheVariants.{Deliver, Report}
use Rattle.rules.specs.declared.act.Speech.{Speech}
use Rattle.rules.specs.declared.act.Speech.TheVariants.{Quiet, Beat, Speak, Drain, Hold}
use Rattle.rules.specs.declared.state.Role.TheVariants.{Initiator, Called}
use Rattle.rules.specs.declared.state.Life.{Life}
use Rattle.rules.specs.declared.state.Life.TheVariants.{Idle, Calling, Opening, Settling, Greeted, Answering, Closing, Up}
use Rattle.rules.specs.declared.state.Phase.TheVariants.{Starting as starting}
use Rattle.rules.specs.declared.state.End.{End}

module _ (e : End) (event : Event) (at : Reading) (b : List ℕ) where
  -- ---- what comes

  -- an event that is judged only in time
  pub record Timely (what : Event) : Type 0 where
    pub comes : event ≡ what
    pub timely : overdue e at ≡ false

  -- a message to an end that waits for one
  pub record Listening : Type 0 where
    pub coming : Timely message
    pub awaits : awaited_by e.life ≡ 0 → ⊥

  -- a message of a body has come while a life waits for it
  pub record Heard (life : Life) (h : Header) (body : Body) : Type 0 where
    pub comes : event ≡ message
    pub timely : overdue e at ≡ false
    pub living : e.life ≡ life
    pub reads : parse b ≡ Some (record { header = h; body = body })

  -- one of the start, in its turn
  pub record Next (life : Life) (h : Header) (body : Body) : Type 0 where
    pub hearing : Heard life h body
    pub next : next_for e h ≡ true

  -- a kind 6 while Up
  abbrev pub body_of : Bool → Body
  body_of train = cond train TrainData LifeSign

  -- an event of the user or of the clock while Up
  pub record Upright (what : Event) : Type 0 where
    pub comes : event ≡ what
    pub timely : overdue e at ≡ false
    pub living : e.life ≡ Up

  -- the number is the expected one, or there is a gap before it
  abbrev pub InReach : Header → Type 0
  InReach h = (class_for e h ≡ Expected) ⊎ (class_for e h ≡ Gap)

  -- ---- why an event is only noted

  pub data NoteGrounds (a : Answer) : Type 0 where
    -- handled: an Idle end that may not ask, and an end that is starting
    idle_tick : a ≡ Handled → Timely Tick → e.life ≡ Idle → (e.role ≡ Initiator → may_ask e at ≡ false) → NoteGrounds a
    starting_tick : a ≡ Handled → Timely Tick → phase_of e.life ≡ starting → NoteGrounds a
    -- no rule
    connect_to_initiator : a ≡ NoRule → event ≡ Connect → e.role ≡ Initiator → NoteGrounds a
    disconnect_at_rest : a ≡ NoRule → event ≡ Disconnect → e.life ≡ Idle → NoteGrounds a
    confirm_unasked : a ≡ NoRule → Timely Confirm → (e.life ≡ Calling → ⊥) → NoteGrounds a
    message_unawaited : a ≡ NoRule → Timely message → awaited_by e.life ≡ 0 → NoteGrounds a
    data_too_early : a ≡ NoRule → Timely Data → (e.life ≡ Up → ⊥) → NoteGrounds a
    -- user data
    bad_length : a ≡ BadLength → Upright Data → sendable (length b) ≡ false → NoteGrounds a
    queue_full : a ≡ QueueFull → Upright Data → sendable (length b) ≡ true → e.line.busy ≡ true
        → ltb (waiting_in e.ring) places ≡ false → NoteGrounds a
    -- messages
    malformed : a ≡ Malformed → Listening → parse b ≡ None → NoteGrounds a
    other_kind : (m : Message) → a ≡ NotAwaited → Listening → parse b ≡ Some m → (kind_of m.body ≡ awaited_by e.life → ⊥) → NoteGrounds a
    out_of_turn : (life : Life) (h : Header) (body : Body) → a ≡ NotAwaited → Heard life h body → phase_of life ≡ starting
        → next_for e h ≡ false → kind_of body ≡ awaited_by life → NoteGrounds a

  -- ---- refused while Up

  pub data Failure (a : Answer) : Type 0 where
    is_old : (h : Header) (train : Bool) → a ≡ old → Heard Up h (body_of train) → class_for e h ≡ Old → Failure a
    is_late : (h : Header) (train : Bool) → a ≡ late → Heard Up h (body_of train) → InReach h → fresh_for e at h ≡ false → Failure a

  -- ---- why an end falls

  -- the echo, the spread or the minimum of a message of the start is wrong
  abbrev pub Mismatch : Header → Body → Type 0
  Mismatch h OffsetStart = ⊥
  Mismatch h OffsetAnsw1 = measures e at h ≡ false
  Mismatch h OffsetAnsw2 = measures e at h ≡ false
  Mismatch h (OffsetEst minimum maximum) = opposed_of minimum e.line.offsets.maximum ≡ false
  Mismatch h OffsetEnd = ⊥
  Mismatch h LifeSign = ⊥
  Mismatch h TrainData = ⊥

  pub data Fallen (a : Answer) (error : Bool) : Type 0 where
    by_silence : a ≡ Silent → error ≡ false → overdue e at ≡ true → (e.life ≡ Idle → ⊥) → IsOrdinary event → Fallen a error
    by_start : (life : Life) (h : Header) (body : Body) → a ≡ StartFailed → error ≡ false → phase_of life ≡ starting
        → Next life h body → kind_of body ≡ awaited_by life → Mismatch h body → Fallen a error
    by_loss : (h : Header) (train : Bool) → a ≡ lost → error ≡ false → Heard Up h (body_of train) → class_for e h ≡ Lost → Fallen a error
    by_failure : error ≡ true → Failure a → ltb (e.line.failures + 1) e.settings.errors ≡ false → Fallen a error

  -- ---- each act

  abbrev pub MoveGrounds : ConnectionMove → Type 0
  MoveGrounds Ask = Timely Tick × (e.life ≡ Idle) × (e.role ≡ Initiator) × (may_ask e at ≡ true)
  MoveGrounds Accept = (event ≡ Connect) × (e.role ≡ Called)
  MoveGrounds Lose = (event ≡ Disconnect) × (e.life ≡ Idle → ⊥)
  MoveGrounds (Fall answer error) = Fallen answer error

  abbrev pub ExchangeGrounds : Exchange → Type 0
  ExchangeGrounds (Begin goes) = Timely Confirm × (e.life ≡ Calling) × (goes ≡ OffsetStart)
  ExchangeGrounds (Greet s) = (h : Header) × (s ≡ swap_of h OffsetAnsw1) × Next Greeted h OffsetStart
  ExchangeGrounds (Measure m) =
      (h : Header) × (m ≡ measurement_of h at OffsetAnsw2) × Next Opening h OffsetAnsw1 × (measures e at h ≡ true)
  ExchangeGrounds (Estimate m) =
      (h : Header) × (m ≡ measurement_of h at (estimate_of (offsets_from h at))) × Next Answering h OffsetAnsw2 × (measures e at h ≡ true)
  ExchangeGrounds (Finish s) =
      (h : Header) × (minimum : Offset) × (maximum : Offset) × (s ≡ swap_of h OffsetEnd) × Next Settling h (OffsetEst minimum maximum)
      × (opposed_of minimum e.line.offsets.maximum ≡ true)
  ExchangeGrounds (Rise h) = Next Closing h OffsetEnd

  abbrev pub VerdictGrounds : Verdict → Type 0
  VerdictGrounds (Deliver d) =
      Heard Up d.header (body_of d.train) × (d ≡ delivery_of e at d.header d.train) × InReach d.header
      × (fresh_for e at d.header ≡ true)
  VerdictGrounds (Report answer failures) =
      Failure answer × (failures ≡ e.line.failures + 1) × (ltb (e.line.failures + 1) e.settings.errors ≡ true)

  abbrev pub SpeechGrounds : Speech → Type 0
  SpeechGrounds Quiet = Upright Tick × (waiting_in e.ring ≡ 0) × (life_sign_due e at ≡ false)
  SpeechGrounds Beat = Upright Tick × (waiting_in e.ring ≡ 0) × (life_sign_due e at ≡ true)
  SpeechGrounds Speak = Upright Data × (sendable (length b) ≡ true) × (e.line.busy ≡ false)
  SpeechGrounds Drain = Upright Tick × (waiting_in e.ring ≡ 0 → ⊥)
  SpeechGrounds Hold =
      Upright Data × (sendable (length b) ≡ true) × (e.line.busy ≡ true) × (ltb (waiting_in e.ring) places ≡ true)

  -- of an event that is not taken, with so much room
  pub data StayGrounds (room : ℕ) (a : Answer) : Type 0 where
    no_room : a ≡ NoRoom → ltb room least_room ≡ true → StayGrounds room a
    went_back : a ≡ ClockBack → least_room ≤ room → back_of at e.reading ≡ true → StayGrounds room a

  -- of one that is
  pub record IsTaken (room : ℕ) : Type 0 where
    pub fits : least_room ≤ room
    pub forth : back_of at e.reading ≡ false
