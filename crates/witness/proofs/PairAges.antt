-- The ages of the long run, computed; what follows, by the claims of two ends.
use mathlib.Core.Logic.{inl, inr}
use mathlib.Core.Path.{refl}
use Rattle.judge.specs.Difference.{diff}
use Rattle.queue.specs.Ring.{slot_bytes, slot_data}
use Rattle.wire.specs.Message.{parse, encode, header_bytes}
use Rattle.rules.specs.Decide.{decide_of, on_event}
use Rattle.rules.specs.Perform.{performed}
use Rattle.rules.specs.Step.{effect_of, stepped}
use Rattle.pair.specs.Run.{after}
use Rattle.pair.proofs.Claims.{nothing_old_delivered}
use Rattle.witness.specs.Ends.{stamped}
use Rattle.witness.specs.PairTable.{delivery, moves_in}
use Rattle.witness.specs.PairJourney.{start, journey, l, r, until_near, until_wrapped, until_answered, until_delayed, l4, l5, l6, r6}
use Rattle.witness.specs.PairAges.{AgedOverTheWrap, AgedByWrappedClock, AgedToTheLimit, OneIsLate, OldestOfAll}
use Rattle.witness.proofs.PairAged.{aged_at_left, aged_at_right, late_at_right}
use Rattle.witness.proofs.PairJourney.{journey_happens}
use Rattle.witness.proofs.PairOrder.{to_left_lem, to_right_lem}

pub aged_over_the_wrap : AgedOverTheWrap
unfolding after stepped effect_of performed decide_of on_event parse encode header_bytes slot_bytes slot_data diff
aged_over_the_wrap =
    aged_at_right start until_near 20 journey_happens.sound refl l4 (stamped 4 (l 140) (r 42) (l 45)) 20 25 11
    (record { may = refl; up = refl; reads = refl; true_is = refl; computed_is = refl; spread_is = refl })

pub aged_by_wrapped_clock : AgedByWrappedClock
unfolding after stepped effect_of performed decide_of on_event parse encode header_bytes slot_bytes slot_data diff
aged_by_wrapped_clock = (
  refl,
  aged_at_left start until_wrapped 8 journey_happens.sound refl r6 (stamped 6 (r 167) (l 140) (r 160)) 8 12 9
      (record { may = refl; up = refl; reads = refl; true_is = refl; computed_is = refl; spread_is = refl }),
)

pub aged_to_the_limit : AgedToTheLimit
unfolding after stepped effect_of performed decide_of on_event parse encode header_bytes slot_bytes slot_data diff
aged_to_the_limit = (
  aged_at_right start until_answered 45 journey_happens.sound refl l5 (stamped 5 (l 180) (r 167) (l 175)) 45 50 11
      (record { may = refl; up = refl; reads = refl; true_is = refl; computed_is = refl; spread_is = refl }),
  refl,
)

pub one_is_late : OneIsLate
unfolding after stepped effect_of performed decide_of on_event parse encode header_bytes slot_bytes slot_data diff
one_is_late =
    late_at_right start until_delayed 46 journey_happens.sound refl l6 (stamped 6 (l 230) (r 167) (l 175)) 46 51 11
    (record { may = refl; up = refl; reads = refl; true_is = refl; computed_is = refl; spread_is = refl }) refl refl

pub oldest_of_all : OldestOfAll
oldest_of_all =
    let all = nothing_old_delivered start journey_happens.sound (moves_in journey) journey_happens.run in
    let there = to_right_lem (delivery 1 225 l5) (inr (inl refl)) in
    let here = to_left_lem (delivery 1 175 r6) (inr (inl refl)) in (
      record { among = there; true_is = refl; timely = all.1 (delivery 1 225 l5) there },
      record { among = here; true_is = refl; timely = all.0 (delivery 1 175 r6) here },
    )
