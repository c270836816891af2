-- The long run meets the claims of age: messages are judged by ends that are Up, before and after a clock wraps, and one is late.
use Rattle.std.specs.Prelude.{ℕ, ◌≡◌, Some}
use Rattle.wire.specs.Message.{parse}
use Rattle.wire.specs.declared.message.Header.{Header}
use Rattle.wire.specs.declared.message.Body.TheVariants.{TrainData}
use Rattle.rules.specs.declared.state.Life.TheVariants.{Up}
use Rattle.pair.specs.Among.{Among}
use Rattle.pair.specs.World.{Letter, Delivery, Side, World, clock_of, true_age}
use Rattle.pair.specs.Channel.{MayHandOver}
use Rattle.rules.specs.Claims.{answer_of}
use Rattle.pair.specs.Happening.{result_at}
use Rattle.pair.specs.Run.{Lawful}
use Rattle.pair.specs.Age.{computed_age, measured_spread, AgeBounded, Timely, LateIndeed}
use Rattle.witness.specs.Ends.{stamped}
use Rattle.witness.specs.PairTable.{delivery, comes, reached_later}
use Rattle.witness.specs.PairJourney.{start, l, r, until_near, until_wrapped, until_answered, until_delayed, l4, l5, l6, r6}
use Rattle.witness.specs.PairOrder.{ended}

-- ---- one letter

-- an end that is Up may be handed a letter; its true age, its computed age and the spread are these: `AgeIsBounded`
pub record Aged (w : World) (to from : Side) (m : Letter) (h : Header) (age computed spread : ℕ) : Type 0 where
  pub may : MayHandOver w.time to from m
  pub up : to.end.life ≡ Up
  pub reads : parse m.bytes ≡ Some (record { header = h; body = TrainData })
  pub true_is : true_age m w.time ≡ age
  pub computed_is : computed_age w to h ≡ computed
  pub spread_is : measured_spread to ≡ spread
  pub bounded : AgeBounded w to from m h

-- an end answers 11 to a letter that it may be handed; the figures are these: `LateIsNearlyOld`
pub record ComesLate (w : World) (to from : Side) (m : Letter) (h : Header) (age computed spread : ℕ) : Type 0 where
  pub aged : Aged w to from m h age computed spread
  pub may : Lawful w to from (comes m)
  pub answer : answer_of (result_at w.time to (comes m)) ≡ 11
  pub late : LateIndeed w to (comes m)

-- ---- in the long run

-- sent 10 ticks before the initiator's clock wrapped, judged 10 ticks after
abbrev pub AgedOverTheWrap : Type 0
AgedOverTheWrap =
    let w = reached_later start until_near 20 in
    Aged w w.right w.left l4 (stamped 4 (l 140) (r 42) (l 45)) 20 25 11

-- judged by the clock that has wrapped, and reads 25
abbrev pub AgedByWrappedClock : Type 0
AgedByWrappedClock =
    let w = reached_later start until_wrapped 8 in
    ((clock_of w.left w.time).0 ≡ 25) × Aged w w.left w.right r6 (stamped 6 (r 167) (l 140) (r 160)) 8 12 9

-- the computed age is the limit, 50: it is delivered
abbrev pub AgedToTheLimit : Type 0
AgedToTheLimit =
    let w = reached_later start until_answered 45 in
    Aged w w.right w.left l5 (stamped 5 (l 180) (r 167) (l 175)) 45 50 11
    × (answer_of (result_at w.time w.right (comes l5)) ≡ 0)

-- one tick more: it is late, though truly not so old
abbrev pub OneIsLate : Type 0
OneIsLate =
    let w = reached_later start until_delayed 46 in
    ComesLate w w.right w.left l6 (stamped 6 (l 230) (r 167) (l 175)) 46 51 11

-- ---- what was delivered

-- one of those that a side delivered, and how old it truly was: `NothingOldDelivered`
pub record DeliveredAt (to : Side) (d : Delivery) (age : ℕ) : Type 0 where
  pub among : Among d to.delivered
  pub true_is : true_age d.letter d.time ≡ age
  pub timely : Timely to d

abbrev pub OldestOfAll : Type 0
OldestOfAll = DeliveredAt ended.right (delivery 1 225 l5) 45 × DeliveredAt ended.left (delivery 1 175 r6) 8
