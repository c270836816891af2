-- Claims: the computed age is never below the true one, and above it by no more than the spread.
use Rattle.std.specs.Prelude.{ℕ, ◌+◌, ◌≤◌, ◌<◌, ◌≡◌, Some}
use Rattle.judge.specs.Clock.{spread_of}
use Rattle.judge.specs.Difference.{diff}
use Rattle.wire.specs.Message.{parse}
use Rattle.wire.specs.declared.message.Header.{Header}
use Rattle.wire.specs.declared.message.Body.{Body}
use Rattle.rules.specs.Claims.{answer_of}
use Rattle.rules.specs.Hearing.{age_for}
use Rattle.rules.specs.declared.act.Event.TheVariants.{Message}
use Rattle.rules.specs.declared.state.Life.TheVariants.{Up}
use Rattle.pair.specs.Among.{Among}
use Rattle.pair.specs.World.{Letter, Delivery, Side, World, clock_of, true_age}
use Rattle.pair.specs.Channel.{MayHandOver}
use Rattle.pair.specs.Happening.{Happening, result_at}
use Rattle.pair.specs.Run.{Lawful}
use Rattle.pair.specs.EveryRun.{EveryRun, BothWays}

-- the age that an end works out now for a message with a header
abbrev pub computed_age : World → Side → Header → ℕ
computed_age w to h = age_for to.end (clock_of to w.time) h

-- the offset spread that it measured when the connection began
abbrev pub measured_spread : Side → ℕ
measured_spread to = spread_of to.end.line.offsets

-- by how many ticks the minimum is below the true difference of the two clocks
abbrev pub shortfall : Side → Side → ℕ
shortfall to from = diff 32 to.bias (to.end.line.offsets.minimum.0 + from.bias)

pub record AgeBounded (w : World) (to from : Side) (l : Letter) (h : Header) : Type 0 where
  -- it was sent before now, so the true age is no cut-off difference
  pub sent_before : l.time ≤ w.time
  pub never_below : true_age l w.time ≤ computed_age w to h
  pub little_above : computed_age w to h ≤ true_age l w.time + measured_spread to
  pub narrow : measured_spread to ≤ to.end.settings.spread
  -- and it is above by the same number of ticks for all messages of a connection
  pub exactly : computed_age w to h ≡ true_age l w.time + shortfall to from
  pub held : shortfall to from ≤ measured_spread to

-- whatever the channel may hand over to an end that is Up
abbrev pub AgeIsBounded : Type 0
AgeIsBounded =
    EveryRun (BothWays (λ w to from. (l : Letter) (h : Header) (body : Body) → MayHandOver w.time to from l → to.end.life ≡ Up
    → parse l.bytes ≡ Some (record { header = h; body = body }) → AgeBounded w to from l h))

-- nothing truly older than the age limit is delivered
pub record Timely (to : Side) (d : Delivery) : Type 0 where
  pub sent_before : d.letter.time ≤ d.time
  pub not_too_old : true_age d.letter d.time ≤ to.end.settings.age

abbrev pub NothingOldDelivered : Type 0
NothingOldDelivered = EveryRun (BothWays (λ w to from. (d : Delivery) → Among d to.delivered → Timely to d))

-- nothing younger than the limit less the spread is called late: the true age and the spread are together above the limit
pub record LateIndeed (w : World) (to : Side) (h : Happening) : Type 0 where
  pub comes : h.event ≡ Message
  pub sent_before : h.letter.time ≤ w.time
  pub not_young : to.end.settings.age < true_age h.letter w.time + measured_spread to

abbrev pub LateIsNearlyOld : Type 0
LateIsNearlyOld =
    EveryRun (BothWays (λ w to from. (h : Happening) → Lawful w to from h → answer_of (result_at w.time to h) ≡ 11 → LateIndeed w to h))
