-- When the link says no: for each answer its condition, as docs/RULES.md has it. The order in which the rules test is not looked at here:
-- each condition stands by itself, and no two of them hold at once.
use Rattle.std.specs.Prelude.{ℕ, ◌^◌, ◌≤◌, ◌<◌, true, List, ◌⊎◌, ◌≡◌, length, None, Some}
use Rattle.judge.specs.Clock.{since_of, offsets_by, spread_of}
use Rattle.judge.specs.Difference.{diff}
use Rattle.judge.specs.declared.clock.Reading.{Reading}
use Rattle.queue.specs.Ring.{places, waiting_in}
use Rattle.wire.specs.Message.{parse, kind_of, longest}
use Rattle.wire.specs.declared.message.Header.{Header}
use Rattle.wire.specs.declared.message.Body.{Body}
use Rattle.wire.specs.declared.message.Body.TheVariants.{OffsetStart, OffsetAnsw1, OffsetAnsw2, OffsetEst, OffsetEnd, LifeSign, TrainData}
use Rattle.wire.specs.declared.message.Message.{Message}
use Rattle.rules.specs.State.{phase_of, awaited_by}
use Rattle.rules.specs.Hearing.{ahead_for, age_for}
use Rattle.rules.specs.Decide.{least_room}
use Rattle.rules.specs.declared.answer.Answer.{Answer}
use Rattle.rules.specs.declared.answer.Answer.TheVariants.{Handled, OutOfRange, ClockBack, NoRule, BadLength, QueueFull, Malformed, NotAwaited, StartFailed, Old, Lost, Late, Silent, Gap, NoRoom}
use Rattle.rules.specs.declared.act.Event.{Event}
use Rattle.rules.specs.declared.act.Event.TheVariants.{Tick, Connect, Confirm, Disconnect, Data, Message as message}
use Rattle.rules.specs.declared.state.Role.TheVariants.{Initiator, Called}
use Rattle.rules.specs.declared.state.Life.TheVariants.{Idle, Calling, Up}
use Rattle.rules.specs.declared.state.Phase.TheVariants.{Starting as starting}
use Rattle.rules.specs.declared.state.End.{End}

-- ---- what the conditions speak of

-- an event is taken: there is room, and the clock has not gone back
pub record IsTaken (e : End) (at : Reading) (room : ℕ) : Type 0 where
  pub fits : least_room ≤ room
  pub forth : since_of at e.reading < 2 ^ 31

-- R or more ticks since last heard, or T or more in a starting state
abbrev pub Overdue : End → Reading → Type 0
Overdue e at =
    ((e.life ≡ Up) × (e.settings.silence ≤ since_of at e.line.times.heard))
    ⊎ ((phase_of e.life ≡ starting) × (e.settings.wait ≤ since_of at e.line.began))

-- a tick, a confirm, user data or a message: all but the two indications
abbrev pub IsOrdinary : Event → Type 0
IsOrdinary event = (event ≡ Tick) ⊎ ((event ≡ Confirm) ⊎ ((event ≡ Data) ⊎ (event ≡ message)))

-- data that can be sent
abbrev pub HasGoodLength : List ℕ → Type 0
HasGoodLength b = (1 ≤ length b) × (length b ≤ longest)

-- of d, with the limit N: 2 to N; N + 1 to 32,767; 0 or 32,768 and more
abbrev pub IsGap : ℕ → ℕ → Type 0
IsGap limit d = (2 ≤ d) × (d ≤ limit) × (d < 32_768)

abbrev pub IsLost : ℕ → ℕ → Type 0
IsLost limit d = (2 ≤ d) × (limit < d) × (d < 32_768)

abbrev pub IsOld : ℕ → Type 0
IsOld d = (d ≡ 0) ⊎ (32_768 ≤ d)

-- the echo is not the reading that was sent, or the spread exceeds W
abbrev pub Mismeasured : End → Reading → Header → Type 0
Mismeasured e at h =
    (h.stamps.echo.0 ≡ e.line.offsets.since.0 → ⊥) ⊎ (e.settings.spread < spread_of (offsets_by h.stamps at))

-- echo, spread or minimum wrong
abbrev pub IsWrong : End → Reading → Header → Body → Type 0
IsWrong e at h OffsetStart = ⊥
IsWrong e at h OffsetAnsw1 = Mismeasured e at h
IsWrong e at h OffsetAnsw2 = Mismeasured e at h
IsWrong e at h (OffsetEst minimum maximum) = minimum.0 ≡ diff 32 0 e.line.offsets.maximum.0 → ⊥
IsWrong e at h OffsetEnd = ⊥
IsWrong e at h LifeSign = ⊥
IsWrong e at h TrainData = ⊥

-- an event at an end, with the bytes that came with it and so much lent output
module _ (e : End) (event : Event) (at : Reading) (b : List ℕ) (room : ℕ) where
  -- such an event is judged: it is taken, and the end is not overdue
  pub record Judged (what : Event) : Type 0 where
    pub taken : IsTaken e at room
    pub comes : event ≡ what
    pub timely : Overdue e at → ⊥

  -- ---- messages

  -- a well-formed message is judged
  pub record Reads (m : Message) : Type 0 where
    pub judged : Judged message
    pub reads : parse b ≡ Some m

  -- one of the awaited kind with d = 1 while starting; a kind 6 while Up
  pub record InStart (m : Message) : Type 0 where
    pub reading : Reads m
    pub starts : phase_of e.life ≡ starting
    pub awaited : kind_of m.body ≡ awaited_by e.life
    pub next : ahead_for e m.header ≡ 1

  pub record WhileUp (m : Message) : Type 0 where
    pub reading : Reads m
    pub up : e.life ≡ Up
    pub is_data : kind_of m.body ≡ 6

  -- ---- the table

  abbrev pub HasNoRule : Type 0
  HasNoRule =
      ((event ≡ Connect) × (e.role ≡ Initiator))
      ⊎ (((event ≡ Disconnect) × (e.life ≡ Idle))
      ⊎ ((Judged message × ((e.life ≡ Idle) ⊎ (e.life ≡ Calling)))
      ⊎ ((Judged Data × (e.life ≡ Up → ⊥)) ⊎ (Judged Confirm × (e.life ≡ Calling → ⊥)))))

  abbrev pub IsHandled : Type 0
  IsHandled =
      ((event ≡ Connect) × (e.role ≡ Called))
      ⊎ (((event ≡ Disconnect) × (e.life ≡ Idle → ⊥))
      ⊎ (Judged Tick
      ⊎ ((Judged Confirm × (e.life ≡ Calling))
      ⊎ ((Judged Data × (e.life ≡ Up) × HasGoodLength b × (e.line.busy ≡ true → waiting_in e.ring < places))
      ⊎ ((m : Message) × ((InStart m × (IsWrong e at m.header m.body → ⊥))
      ⊎ (WhileUp m × (ahead_for e m.header ≡ 1) × (age_for e at m.header ≤ e.settings.age))))))))

  abbrev pub Given : Answer → Type 0
  Given Handled = IsTaken e at room × IsHandled
  Given OutOfRange = ⊥
  Given ClockBack = (least_room ≤ room) × (2 ^ 31 ≤ since_of at e.reading)
  Given NoRule = IsTaken e at room × HasNoRule
  Given BadLength = Judged Data × (e.life ≡ Up) × (HasGoodLength b → ⊥)
  Given QueueFull = Judged Data × (e.life ≡ Up) × HasGoodLength b × (e.line.busy ≡ true) × (places ≤ waiting_in e.ring)
  Given Malformed = Judged message × (awaited_by e.life ≡ 0 → ⊥) × (parse b ≡ None)
  Given NotAwaited =
      (m : Message) × Reads m
      × (((phase_of e.life ≡ starting) × (e.life ≡ Calling → ⊥)
      × ((kind_of m.body ≡ awaited_by e.life → ⊥) ⊎ (ahead_for e m.header ≡ 1 → ⊥)))
      ⊎ ((e.life ≡ Up) × (kind_of m.body ≡ 6 → ⊥)))
  Given StartFailed = (m : Message) × InStart m × IsWrong e at m.header m.body
  Given Old = (m : Message) × WhileUp m × IsOld (ahead_for e m.header)
  Given Lost = (m : Message) × WhileUp m × IsLost e.settings.jump (ahead_for e m.header)
  Given Late =
      (m : Message) × WhileUp m × ((ahead_for e m.header ≡ 1) ⊎ IsGap e.settings.jump (ahead_for e m.header))
      × (e.settings.age < age_for e at m.header)
  Given Silent = IsTaken e at room × IsOrdinary event × Overdue e at
  Given Gap = (m : Message) × WhileUp m × IsGap e.settings.jump (ahead_for e m.header) × (age_for e at m.header ≤ e.settings.age)
  Given NoRoom = room < least_room
