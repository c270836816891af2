-- All that one event can make of a side: a connection begins, or a few changes follow each other, each with what leads to it.
use Rattle.std.specs.Prelude.{Some}
use Prim.Native.Nat.{ℕ, ◌+◌, ◌≤◌}
use mathlib.Core.Bool.{Bool, true, false, ◌||◌}
use mathlib.Core.List.{List, [], ◌∷◌, ◌++◌}
use mathlib.Core.Logic.{◌⊎◌}
use mathlib.Core.Path.{◌≡◌, refl}
use lib.Dec.{eqb}
use lib.ListN.{length}
use Rattle.judge.specs.Clock.{age_of, spread_of, offsets_by}
use Rattle.judge.specs.Sequence.{ahead_of}
use Rattle.judge.specs.declared.clock.Offsets.{Offsets}
use Rattle.wire.specs.Claims.{Fits}
use Rattle.wire.specs.Message.{parse, kind_of}
use Rattle.wire.specs.declared.message.Header.{Header}
use Rattle.wire.specs.declared.message.Body.{Body}
use Rattle.wire.specs.declared.message.Body.TheVariants.{OffsetStart, OffsetAnsw1, OffsetAnsw2, OffsetEst, OffsetEnd, LifeSign, TrainData}
use Rattle.rules.specs.declared.act.Event.TheVariants.{Message}
use Rattle.rules.specs.declared.state.Role.TheVariants.{Initiator, Called}
use Rattle.rules.specs.declared.state.Life.{Life}
use Rattle.rules.specs.declared.state.Life.TheVariants.{Idle, Calling, Opening, Settling, Greeted, Answering, Closing, Up}
use Rattle.pair.specs.World.{Delivery}
use Rattle.pair.specs.Happening.{Happening}
use Rattle.pair.proofs.Notes.{Note, note_of}
use Rattle.pair.proofs.View.{User, View, clock_at, living, gauging, serving, hearing, delivering, sending, entering, falling, datum_of, marked, leaving, handing, receiving, message_of}

-- ---- words

-- the lives that have measured offsets
abbrev pub has_offsets : Life → Bool
has_offsets Idle = false
has_offsets Calling = false
has_offsets Opening = false
has_offsets Settling = true
has_offsets Greeted = false
has_offsets Answering = false
has_offsets Closing = true
has_offsets Up = true

-- the two answers of the clock start, from which offsets are worked out
abbrev pub is_answer : Body → Bool
is_answer body = eqb (kind_of body) 2 || eqb (kind_of body) 3

abbrev pub is_train : Body → Bool
is_train OffsetStart = false
is_train OffsetAnsw1 = false
is_train OffsetAnsw2 = false
is_train (OffsetEst minimum maximum) = false
is_train OffsetEnd = false
is_train LifeSign = false
is_train TrainData = true

-- ---- what leads to a change

-- a letter comes, and its number is past that of the last one accepted
pub record Hears (c : Happening) (x : View) (h : Header) (body : Body) : Type 0 where
  pub comes : c.event ≡ Message
  pub alive : x.life ≡ Idle → ⊥
  pub says : (note_of c.letter).message ≡ record { header = h; body = body }
  pub ahead : 1 ≤ ahead_of h.number x.count.last
  pub near : ahead_of h.number x.count.last ≤ 32_767

-- the offsets are those that a letter gives
pub record Measured (time : ℕ) (c : Happening) (x : View) : Type 0 where
  pub header : Header
  pub body : Body
  pub comes : c.event ≡ Message
  pub says : (note_of c.letter).message ≡ record { header = header; body = body }
  pub answer : is_answer body ≡ true
  pub pair : x.timing.offsets ≡ offsets_by header.stamps (clock_at time x)
  pub narrow : spread_of x.timing.offsets ≤ x.fixed.width

-- a life of the start goes on to the next, or to Up
pub record Lives (time : ℕ) (c : Happening) (x : View) (life : Life) : Type 0 where
  pub alive : x.life ≡ Idle → ⊥
  pub greeted : x.life ≡ Greeted → 1 ≤ x.count.accepted
  pub low : x.life ≡ Up → ⊥
  pub heard : life ≡ Up → 1 ≤ x.count.accepted
  pub measured : has_offsets life ≡ true → (has_offsets x.life ≡ true) ⊎ Measured time c x

-- a message goes out and is noted
pub record Sends (time : ℕ) (x : View) (n : Note) : Type 0 where
  pub alive : x.life ≡ Idle → ⊥
  pub greeted : x.life ≡ Greeted → 1 ≤ x.count.accepted
  pub header : n.message.header ≡ (message_of (clock_at time x) n.message.body x).header
  pub answer : is_answer n.message.body ≡ true → 1 ≤ x.count.accepted
  pub up : kind_of n.message.body ≡ 6 → x.life ≡ Up
  pub reads : parse n.letter.bytes ≡ Some n.message
  pub fits : Fits n.message
  pub connection : n.letter.connection ≡ x.connection
  pub index : n.letter.index ≡ x.count.sent
  pub when : n.letter.time ≡ time
  pub place : n.letter.place ≡ length x.story.log

-- what becomes of the user's part when a message goes out
pub data Takes (c : Happening) (x : View) (n : Note) : User → Type 0 where
  -- it has no train data
  no_data : is_train n.message.body ≡ false → Takes c x n x.user
  -- the user's data go at once, or the oldest that wait do
  given : is_train n.message.body ≡ true → n.train ≡ c.given → x.life ≡ Up → x.user.busy ≡ false
      → Takes c x n (marked true (handing (datum_of x.connection c.given) x.user))
  oldest : is_train n.message.body ≡ true → (rest : List (List ℕ)) → x.user.waiting ≡ n.train ∷ rest → x.life ≡ Up
      → Takes c x n (marked true (leaving rest x.user))

-- and when none does
pub data Waits (c : Happening) (x : View) : User → Type 0 where
  -- while Up nothing waits when data may go at once
  marks : (busy : Bool) → (x.life ≡ Up → busy ≡ false → x.user.waiting ≡ []) → Waits c x (marked busy x.user)
  -- the user's data join those that wait
  holds : x.life ≡ Up → x.user.busy ≡ true
      → Waits c x (leaving (x.user.waiting ++ (c.given ∷ [])) (handing (datum_of x.connection c.given) x.user))

-- ---- one change

abbrev pub delivery_of : ℕ → Happening → View → Delivery
delivery_of time c x = record { letter = c.letter; connection = x.connection; time = time }

abbrev pub heard : ℕ → Happening → Header → View → View
heard time c h x = hearing (clock_at time x) h c.letter.index x

pub data Change (time : ℕ) (c : Happening) (x : View) : View → Type 0 where
  falls : Change time c x (falling x)
  gauges : (pair : Offsets) → has_offsets x.life ≡ false → Change time c x (gauging pair x)
  lives : (life : Life) → Lives time c x life → Change time c x (living life x)
  serves : (user : User) → Waits c x user → Change time c x (serving user x)
  sends : (n : Note) (user : User) → Sends time x n → Takes c x n user → Change time c x (sending n (serving user x))
  hears : (h : Header) (body : Body) → Hears c x h body → Change time c x (heard time c h x)
  delivers : (h : Header) (body : Body) → Hears c x h body → x.life ≡ Up → kind_of body ≡ 6
      → age_of (clock_at time x) h.stamps.sent x.timing.offsets ≤ x.fixed.limit
      → Change time c x
      (serving (receiving (is_train body) (datum_of x.connection (note_of c.letter).train) x.user)
      (delivering (delivery_of time c x) (heard time c h x)))

pub fixed_kept : {time : ℕ} {c : Happening} {x y : View} → Change time c x y → y.fixed ≡ x.fixed
fixed_kept falls = refl
fixed_kept (gauges pair none) = refl
fixed_kept (lives life k) = refl
fixed_kept (serves user k) = refl
fixed_kept (sends n user k t) = refl
fixed_kept (hears h body k) = refl
fixed_kept (delivers h body k up six young) = refl

-- ---- one event

pub data Changes (time : ℕ) (c : Happening) : View → View → Type 0 where
  done : {x : View} → Changes time c x x
  next : {x y z : View} → Change time c x y → Changes time c y z → Changes time c x z

-- what holds before and is kept by every change holds after
pub along : (time : ℕ) (c : Happening) (P : View → Type 0) → ((x y : View) → Change time c x y → P x → P y) → {x y : View}
    → Changes time c x y → P x → P y
along time c P keep done p = p
along time c P keep (next {x} {y} k ks) p = along time c P keep ks (keep x y k p)

-- x becomes a view, with an ask or an accept
pub data Step (time asked : ℕ) (c : Happening) (x : View) : View → Bool → Bool → Type 0 where
  asks : x.fixed.role ≡ Initiator → Step time asked c x (entering Calling (asked + 1) x) true false
  accepts : x.fixed.role ≡ Called → Step time asked c x (entering Greeted c.ask x) false true
  goes : {y : View} → Changes time c x y → Step time asked c x y false false
