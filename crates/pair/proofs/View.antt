-- What is looked at of a side, in parts that change together, and the ways in which these change.
use Prim.Native.Nat.{ℕ, ◌+◌, ◌%◌, ◌^◌}
use mathlib.Core.Bool.{Bool, false, cond}
use mathlib.Core.List.{List, [], ◌∷◌}
use Rattle.judge.specs.declared.clock.Reading.{Reading}
use Rattle.judge.specs.declared.clock.Offsets.{Offsets}
use Rattle.queue.specs.Ring.{entries}
use Rattle.wire.specs.declared.message.Header.{Header}
use Rattle.wire.specs.declared.message.Body.{Body}
use Rattle.wire.specs.declared.message.Message.{Message}
use Rattle.rules.specs.State.{zero_reading, zero_offsets}
use Rattle.rules.specs.declared.state.Role.{Role}
use Rattle.rules.specs.declared.state.Life.{Life}
use Rattle.rules.specs.declared.state.Life.TheVariants.{Idle}
use Rattle.rules.specs.declared.state.Echo.{Echo}
use Rattle.pair.specs.World.{Datum, Delivery, Side, read_by}
use Rattle.pair.proofs.Notes.{Note, notes_of}

-- ---- the parts

-- what never changes: the role, A, W and the bias
pub record Fixed : Type 0 where
  pub role : Role
  pub limit : ℕ
  pub width : ℕ
  pub bias : ℕ

-- the numbers of a connection, as the end holds them and as they are counted without wrapping
pub record Count : Type 0 where
  pub next : ℕ
  pub last : ℕ
  pub sent : ℕ
  pub accepted : ℕ

-- the clocks of a connection
pub record Timing : Type 0 where
  pub offsets : Offsets
  pub echo : Echo

-- what the user has to do with: whether data must wait, those that do, and all that were handed in and received
pub record User : Type 0 where
  pub busy : Bool
  pub waiting : List (List ℕ)
  pub handed : List Datum
  pub received : List Datum

-- what was sent and what was delivered
pub record Story : Type 0 where
  pub log : List Note
  pub delivered : List Delivery

pub record View : Type 0 where
  pub fixed : Fixed
  pub life : Life
  pub connection : ℕ
  pub count : Count
  pub timing : Timing
  pub user : User
  pub story : Story

abbrev pub view_of : Side → View
view_of s =
    let line = s.end.line in
    record {
      fixed = record { role = s.end.role; limit = s.end.settings.age; width = s.end.settings.spread; bias = s.bias };
      life = s.end.life;
      connection = s.connection;
      count = record { next = line.numbers.next; last = line.numbers.last; sent = s.sent; accepted = s.accepted };
      timing = record { offsets = line.offsets; echo = line.echo };
      user = record { busy = line.busy; waiting = entries s.queue s.end.ring; handed = s.handed; received = s.received };
      story = record { log = notes_of s.log; delivered = s.delivered };
    }

-- the reading of a side's clock at a time
abbrev pub clock_at : ℕ → View → Reading
clock_at time x = record { 0 = read_by x.fixed.bias time }

-- ---- ways to change

abbrev view_by : Fixed → Life → ℕ → Count → Timing → User → Story → View
view_by fixed life connection count timing user story =
    record { fixed = fixed; life = life; connection = connection; count = count; timing = timing; user = user; story = story }

-- another life
abbrev pub living : Life → View → View
living life x = view_by x.fixed life x.connection x.count x.timing x.user x.story

-- other offsets
abbrev pub gauging : Offsets → View → View
gauging pair x =
    view_by x.fixed x.life x.connection x.count (record { offsets = pair; echo = x.timing.echo }) x.user x.story

-- the user's part changes
abbrev pub serving : User → View → View
serving user x = view_by x.fixed x.life x.connection x.count x.timing user x.story

-- a message is accepted
abbrev pub hearing : Reading → Header → ℕ → View → View
hearing at h index x =
    view_by x.fixed x.life x.connection
    (record { next = x.count.next; last = h.number; sent = x.count.sent; accepted = index + 1 })
    (record { offsets = x.timing.offsets; echo = record { peer = h.stamps.sent; own = at } }) x.user x.story

-- one is delivered
abbrev pub delivering : Delivery → View → View
delivering d x =
    view_by x.fixed x.life x.connection x.count x.timing x.user
    (record { log = x.story.log; delivered = d ∷ x.story.delivered })

-- a message leaves
abbrev pub sending : Note → View → View
sending n x =
    view_by x.fixed x.life x.connection
    (record { next = (x.count.next + 1) % 2 ^ 16; last = x.count.last; sent = x.count.sent + 1; accepted = x.count.accepted })
    x.timing x.user (record { log = n ∷ x.story.log; delivered = x.story.delivered })

-- nothing is left of a connection
abbrev blank : Timing
blank = record { offsets = zero_offsets; echo = record { peer = zero_reading; own = zero_reading } }

abbrev emptied : User → User
emptied u = record { busy = false; waiting = []; handed = u.handed; received = u.received }

-- a connection begins
abbrev pub entering : Life → ℕ → View → View
entering life name x =
    view_by x.fixed life name (record { next = 0; last = 65_535; sent = 0; accepted = 0 }) blank (emptied x.user) x.story

-- a connection ends
abbrev pub falling : View → View
falling x =
    view_by x.fixed Idle x.connection (record { next = 0; last = 0; sent = x.count.sent; accepted = x.count.accepted }) blank
    (emptied x.user) x.story

-- ---- the user's part

abbrev pub datum_of : ℕ → List ℕ → Datum
datum_of c d = record { connection = c; bytes = d }

-- a kind 6 has gone since the last tick, or none has
abbrev pub marked : Bool → User → User
marked busy u = record { busy = busy; waiting = u.waiting; handed = u.handed; received = u.received }

-- other data wait
abbrev pub leaving : List (List ℕ) → User → User
leaving rest u = record { busy = u.busy; waiting = rest; handed = u.handed; received = u.received }

-- data are handed in
abbrev pub handing : Datum → User → User
handing d u = record { busy = u.busy; waiting = u.waiting; handed = d ∷ u.handed; received = u.received }

-- data are received, or none are
abbrev pub receiving : Bool → Datum → User → User
receiving train d u =
    record { busy = u.busy; waiting = u.waiting; handed = u.handed; received = cond train (d ∷ u.received) u.received }

-- ---- the message that goes out at a reading

abbrev pub message_of : Reading → Body → View → Message
message_of at body x =
    record {
      header = record {
        stamps = record { sent = at; echo = x.timing.echo.peer; receipt = x.timing.echo.own };
        number = x.count.next;
      };
      body = body;
    }
