-- The run at both bounds of the age, computed; what follows, by the claims of two ends.
use mathlib.Core.List.{List, [], ◌∷◌}
use mathlib.Core.Logic.{inl}
use mathlib.Core.Path.{◌≡◌, refl, sym, subst}
use Rattle.judge.specs.Difference.{diff}
use Rattle.queue.specs.Ring.{slot_bytes, slot_data}
use Rattle.wire.specs.Message.{parse, encode, header_bytes}
use Rattle.rules.specs.Decide.{decide_of, on_event}
use Rattle.rules.specs.Perform.{performed}
use Rattle.rules.specs.Step.{effect_of, stepped}
use Rattle.pair.specs.Run.{after}
use Rattle.pair.specs.Among.{Among}
use Rattle.pair.specs.World.{Delivery}
use Rattle.pair.proofs.Claims.{nothing_old_delivered}
use Rattle.witness.specs.Ends.{stamped}
use Rattle.witness.specs.PairTable.{delivery, moves_in, reached}
use Rattle.witness.specs.PairEdges.{sharply, l, r, l3, l4, r2, r3, sharp_start, until_limit, until_over, sharp_run, SharpRunHappens, ShortfallsAreExtreme, AgeIsAboveByTheSpread, AgeIsTrue, DeliveredAtTheLimit, LateAtThirtyOne, LateAtFiftyOne}
use Rattle.witness.proofs.PairSame.{same_deliveries}
use Rattle.witness.proofs.PairShown.{happens}
use Rattle.witness.proofs.PairAged.{aged_at_left, aged_at_right, late_at_left, late_at_right}

pub sharp_run_happens : SharpRunHappens
unfolding after stepped effect_of performed decide_of on_event parse encode header_bytes slot_bytes slot_data diff
sharp_run_happens = happens sharply sharp_run (record { left = record { sound = (refl, refl); in_role = refl }; right = record { sound = (refl, refl); in_role = refl } }) refl refl

pub shortfalls_are_extreme : ShortfallsAreExtreme
unfolding after stepped effect_of performed decide_of on_event parse encode header_bytes slot_bytes slot_data diff
shortfalls_are_extreme = (refl, refl)

pub age_is_above_by_the_spread : AgeIsAboveByTheSpread
unfolding after stepped effect_of performed decide_of on_event parse encode header_bytes slot_bytes slot_data diff
age_is_above_by_the_spread = (
  aged_at_left sharply sharp_start 30 sharp_run_happens.sound refl r2 (stamped 2 (r 20) (l 20) (r 20)) 30 50 20
      (record { may = refl; up = refl; reads = refl; true_is = refl; computed_is = refl; spread_is = refl }),
  refl,
)

pub age_is_true : AgeIsTrue
unfolding after stepped effect_of performed decide_of on_event parse encode header_bytes slot_bytes slot_data diff
age_is_true = (
  aged_at_right sharply sharp_start 50 sharp_run_happens.sound refl l3 (stamped 3 (l 20) (r 20) (l 20)) 50 50 0
      (record { may = refl; up = refl; reads = refl; true_is = refl; computed_is = refl; spread_is = refl }),
  refl,
)

delivered : (reached sharply sharp_run).right.delivered ≡ delivery 1 70 l3 ∷ []
unfolding after stepped effect_of performed decide_of on_event parse encode header_bytes slot_bytes slot_data diff
delivered = same_deliveries (reached sharply sharp_run).right.delivered (delivery 1 70 l3 ∷ []) refl

pub delivered_at_the_limit : DeliveredAtTheLimit
delivered_at_the_limit =
    let all = nothing_old_delivered sharply sharp_run_happens.sound (moves_in sharp_run) sharp_run_happens.run in
    let there = subst (λ (ds : List Delivery). Among (delivery 1 70 l3) ds) (sym delivered) (inl refl) in
    record { among = there; true_is = refl; timely = all.1 (delivery 1 70 l3) there }

pub late_at_thirty_one : LateAtThirtyOne
unfolding after stepped effect_of performed decide_of on_event parse encode header_bytes slot_bytes slot_data diff
late_at_thirty_one =
    late_at_left sharply until_limit 31 sharp_run_happens.sound refl r3 (stamped 3 (r 70) (l 20) (r 70)) 31 51 20
    (record { may = refl; up = refl; reads = refl; true_is = refl; computed_is = refl; spread_is = refl }) refl refl

pub late_at_fifty_one : LateAtFiftyOne
unfolding after stepped effect_of performed decide_of on_event parse encode header_bytes slot_bytes slot_data diff
late_at_fifty_one =
    late_at_right sharply until_over 51 sharp_run_happens.sound refl l4 (stamped 4 (l 101) (r 20) (l 50)) 51 51 0
    (record { may = refl; up = refl; reads = refl; true_is = refl; computed_is = refl; spread_is = refl }) refl refl
