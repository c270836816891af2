-- What the long run sent and delivered, computed; what follows, by the claims of two ends.
use mathlib.Core.List.{List}
use mathlib.Core.Logic.{inl, inr}
use mathlib.Core.Path.{◌≡◌, refl, sym, ap, subst}
use Rattle.judge.specs.Difference.{diff}
use Rattle.queue.specs.Ring.{slot_bytes, slot_data}
use Rattle.wire.specs.Message.{parse, encode, header_bytes}
use Rattle.rules.specs.Decide.{decide_of, on_event}
use Rattle.rules.specs.Perform.{performed}
use Rattle.rules.specs.Step.{effect_of, stepped}
use Rattle.pair.specs.Among.{Among}
use Rattle.pair.specs.World.{Delivery}
use Rattle.pair.specs.Run.{after}
use Rattle.pair.proofs.Claims.{places_are_the_order, delivered_in_order, at_most_once, only_of_this_connection}
use Rattle.witness.specs.PairTable.{moves_in, delivery}
use Rattle.witness.specs.PairJourney.{start, journey, l3, l10, r9}
use Rattle.witness.specs.PairOrder.{ended, all_by_left, all_by_right, all_to_left, all_to_right, places_of, numbers_of, SentInAll, DeliveredInAll, PlacesRise, RightInBoth}
use Rattle.witness.proofs.PairSame.{same_letters, same_deliveries}
use Rattle.witness.proofs.PairJourney.{journey_happens}

pub sent_in_all : SentInAll
unfolding after stepped effect_of performed decide_of on_event parse encode header_bytes slot_bytes slot_data diff
sent_in_all =
    let it = places_are_the_order start journey_happens.sound (moves_in journey) journey_happens.run in
    record {
      left = same_letters ended.left.log all_by_left refl;
      right = same_letters ended.right.log all_by_right refl;
      left_in_place = it.1;
      right_in_place = it.0;
    }

left_delivered : ended.left.delivered ≡ all_to_left
unfolding after stepped effect_of performed decide_of on_event parse encode header_bytes slot_bytes slot_data diff
left_delivered = same_deliveries ended.left.delivered all_to_left refl

right_delivered : ended.right.delivered ≡ all_to_right
unfolding after stepped effect_of performed decide_of on_event parse encode header_bytes slot_bytes slot_data diff
right_delivered = same_deliveries ended.right.delivered all_to_right refl

pub delivered_in_all : DeliveredInAll
delivered_in_all = record { left = left_delivered; right = right_delivered }

pub places_rise : PlacesRise
places_rise =
    let order = delivered_in_order start journey_happens.sound (moves_in journey) journey_happens.run in
    let once = at_most_once start journey_happens.sound (moves_in journey) journey_happens.run in
    record {
      left_places = ap places_of left_delivered;
      left_numbers = ap numbers_of left_delivered;
      right_places = ap places_of right_delivered;
      right_numbers = ap numbers_of right_delivered;
      left_in_order = order.0;
      right_in_order = order.1;
      left_once = once.0;
      right_once = once.1;
    }

-- ---- of each

pub to_left_lem : (d : Delivery) → Among d all_to_left → Among d ended.left.delivered
to_left_lem d i = subst (λ (ds : List Delivery). Among d ds) (sym left_delivered) i

pub to_right_lem : (d : Delivery) → Among d all_to_right → Among d ended.right.delivered
to_right_lem d i = subst (λ (ds : List Delivery). Among d ds) (sym right_delivered) i

pub right_in_both : RightInBoth
right_in_both =
    let all = only_of_this_connection start journey_happens.sound (moves_in journey) journey_happens.run in
    record {
      first = all.1 (delivery 1 30 l3) (to_right_lem (delivery 1 30 l3) (inr (inr (inr (inl refl)))));
      second = all.1 (delivery 2 310 l10) (to_right_lem (delivery 2 310 l10) (inl refl));
      other = all.0 (delivery 2 320 r9) (to_left_lem (delivery 2 320 r9) (inl refl));
    }
