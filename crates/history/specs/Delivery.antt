-- A fresh message of the expected number is delivered, and nothing is delivered but fresh messages of the next N numbers.
use Rattle.std.specs.Prelude.{ℕ, ◌^◌, ◌≤◌, ◌<◌, Bool, true, false, cond, List, ◌≡◌, length, Some}
use Rattle.judge.specs.Clock.{since_of}
use Rattle.judge.specs.declared.clock.Reading.{Reading}
use Rattle.wire.specs.Message.{parse, header_in, train_in}
use Rattle.wire.specs.Writing.{over}
use Rattle.wire.specs.declared.message.Body.TheVariants.{LifeSign, TrainData}
use Rattle.wire.specs.declared.message.Header.{Header}
use Rattle.rules.specs.Claims.{answer_of}
use Rattle.rules.specs.Decide.{least_room}
use Rattle.rules.specs.Ends.{no_flags}
use Rattle.rules.specs.Hearing.{ahead_for, age_for}
use Rattle.rules.specs.Step.{Result, stepped}
use Rattle.rules.specs.declared.act.Event.TheVariants.{Message}
use Rattle.rules.specs.declared.state.Life.TheVariants.{Up}
use Rattle.rules.specs.declared.state.End.{End}
use Rattle.rules.specs.declared.effect.Front.TheVariants.{Nothing as none, Datum as datum}
use Rattle.run.specs.Run.{Making, Sound, Call, Entry, entry_of}
use Rattle.run.specs.Events.{delivers}

-- ---- what is delivered for certain

-- train data stand at the front of the output, unchanged and without the byte 3; of a life sign nothing is seen
abbrev pub HandedOver : Bool → List ℕ → List ℕ → Result → Type 0
HandedOver true given out r = (r.outcome.front ≡ datum (length (train_in given))) × (r.out ≡ over (train_in given) out)
HandedOver false given out r = (r.outcome.front ≡ none) × (r.out ≡ out)

-- the bytes are a kind 6 with a header: train data or a life sign
abbrev pub Says : List ℕ → Header → Bool → Type 0
Says given h train = parse given ≡ Some (record { header = h; body = cond train TrainData LifeSign })

-- an event is taken: there is room, and the clock has not gone back
pub record IsTaken (e : End) (at : Reading) (out : List ℕ) : Type 0 where
  pub room : least_room ≤ length out
  pub forth : since_of at e.reading < 2 ^ 31

-- a message is judged: the event is taken, and the end is Up and has heard of its peer in time
pub record IsJudged (e : End) (at : Reading) (out : List ℕ) : Type 0 where
  pub up : e.life ≡ Up
  pub taken : IsTaken e at out
  pub timely : since_of at e.line.times.heard < e.settings.silence

-- at any end that is Up, however it came there: d = 1 and an age of at most A are answered 0, with no error report
abbrev pub ExpectedIsDelivered : Type 0
ExpectedIsDelivered =
    (e : End) (at : Reading) (given out q : List ℕ) (h : Header) (train : Bool) → IsJudged e at out → Says given h train
    → ahead_for e h ≡ 1 → age_for e at h ≤ e.settings.age
    → let r = stepped e Message at given out q in
    (answer_of r ≡ 0) × HandedOver train given out r × (r.outcome.flags ≡ no_flags) × (r.outcome.end.life ≡ Up)

-- d from 2 to N is answered 13, with an error report; N is at most 1,000, as every end's is
abbrev pub GapIsDelivered : Type 0
GapIsDelivered =
    (e : End) (at : Reading) (given out q : List ℕ) (h : Header) (train : Bool) → IsJudged e at out → Says given h train
    → 2 ≤ ahead_for e h → ahead_for e h ≤ e.settings.jump → e.settings.jump ≤ 1_000 → age_for e at h ≤ e.settings.age
    → let r = stepped e Message at given out q in
    (answer_of r ≡ 13) × HandedOver train given out r × (r.outcome.flags.error ≡ true) × (r.outcome.end.life ≡ Up)

-- ---- nothing else is delivered

-- of a message against the end that gets it: d is 1 to N, and the age at most A
pub record InTurnAndFresh (x : Entry) (jump age : ℕ) : Type 0 where
  pub later : 1 ≤ ahead_for x.before.end (header_in x.call.given)
  pub near : ahead_for x.before.end (header_in x.call.given) ≤ jump
  pub fresh : age_for x.before.end x.call.at (header_in x.call.given) ≤ age

-- in every run, what is delivered has 1 ≤ d ≤ N and an age of at most A
abbrev pub DeliveredIsFresh : Type 0
DeliveredIsFresh =
    (m : Making) → Sound m → (cs : List Call) (c : Call) → delivers (entry_of m cs c) ≡ true
    → InTurnAndFresh (entry_of m cs c) m.settings.jump m.settings.age

-- and whatever data the user gets were delivered so, the bytes of the message from the seventeenth on
abbrev pub UserGetsDelivered : Type 0
UserGetsDelivered =
    (m : Making) (cs : List Call) (c : Call) (n : ℕ) → (entry_of m cs c).result.outcome.front ≡ datum n
    → (delivers (entry_of m cs c) ≡ true) × (n ≡ length (train_in c.given)) × ((entry_of m cs c).result.out ≡ over (train_in c.given) c.out)
