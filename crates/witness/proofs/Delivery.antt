-- The deliveries, computed; what follows from them, by the claims.
use mathlib.Core.Bool.{true, false}
use mathlib.Core.List.{[], ◌∷◌}
use mathlib.Core.Path.{◌≡◌, refl}
use lib.Dec.{lit<, lit≤}
use Rattle.judge.specs.Difference.{diff}
use Rattle.queue.specs.Ring.{slot_bytes, slot_data}
use Rattle.wire.specs.Message.{parse, encode, header_bytes}
use Rattle.rules.specs.Decide.{decide_of, on_event}
use Rattle.rules.specs.Perform.{performed}
use Rattle.rules.specs.Step.{effect_of, stepped}
use Rattle.run.specs.Run.{after}
use Rattle.run.specs.Events.{delivers}
use Rattle.history.specs.Delivery.{IsJudged}
use Rattle.history.proofs.Delivery.{expected_is_delivered, gap_is_delivered, delivered_is_fresh, user_gets_delivered}
use Rattle.witness.specs.Ends.{initiator, reading, roomy, stamped, life_sign, train}
use Rattle.witness.specs.Table.{calls_in, next}
use Rattle.witness.specs.Initiator.{rising, in_turn, until_heard, gapped}
use Rattle.witness.specs.Delivery.{risen, before_the_wrap, TrainDataAreDelivered, LifeSignIsDelivered, OldestIsDelivered, DeliveredAtTheWrap, NarrowestGap, WidestGap, DeliveredInTurn, DeliveredAfterGap}

risen_judges : IsJudged risen (reading 131) roomy
unfolding after stepped effect_of performed decide_of on_event parse encode header_bytes diff
risen_judges = record { up = refl; taken = record { room = lit≤ tt; forth = lit< tt }; timely = lit< tt }

wrap_judges : IsJudged before_the_wrap (reading 1_000) roomy
unfolding diff
wrap_judges = record { up = refl; taken = record { room = lit≤ tt; forth = lit< tt }; timely = lit< tt }

pub train_data_are_delivered : TrainDataAreDelivered
unfolding after stepped effect_of performed decide_of on_event parse encode header_bytes diff
train_data_are_delivered = (
  risen_judges,
  refl,
  refl,
  refl,
  lit≤ tt,
  expected_is_delivered risen (reading 131) (train 2 70 115 66 (1 ∷ 2 ∷ 3 ∷ [])) roomy initiator.queue (stamped 2 70 115 66) true
      risen_judges refl refl (lit≤ tt),
)

pub life_sign_is_delivered : LifeSignIsDelivered
unfolding after stepped effect_of performed decide_of on_event parse encode header_bytes diff
life_sign_is_delivered = (
  risen_judges,
  refl,
  refl,
  refl,
  lit≤ tt,
  expected_is_delivered risen (reading 131) (life_sign 2 70 115 66) roomy initiator.queue (stamped 2 70 115 66) false
      risen_judges refl refl (lit≤ tt),
)

pub oldest_is_delivered : OldestIsDelivered
unfolding after stepped effect_of performed decide_of on_event parse encode header_bytes diff
oldest_is_delivered = (
  risen_judges,
  refl,
  refl,
  refl,
  lit≤ tt,
  expected_is_delivered risen (reading 131) (life_sign 2 28 115 66) roomy initiator.queue (stamped 2 28 115 66) false
      risen_judges refl refl (lit≤ tt),
)

pub delivered_at_the_wrap : DeliveredAtTheWrap
unfolding parse header_bytes diff
delivered_at_the_wrap = (
  wrap_judges,
  refl,
  refl,
  refl,
  lit≤ tt,
  expected_is_delivered before_the_wrap (reading 1_000) (train 0 4_294_967_290 0 0 (1 ∷ [])) roomy initiator.queue
      (stamped 0 4_294_967_290 0 0) true wrap_judges refl refl (lit≤ tt),
)

pub narrowest_gap : NarrowestGap
unfolding after stepped effect_of performed decide_of on_event parse encode header_bytes diff
narrowest_gap = (
  risen_judges,
  refl,
  refl,
  lit≤ tt,
  lit≤ tt,
  lit≤ tt,
  lit≤ tt,
  gap_is_delivered risen (reading 131) (train 3 70 115 66 (1 ∷ [])) roomy initiator.queue (stamped 3 70 115 66) true
      risen_judges refl (lit≤ tt) (lit≤ tt) (lit≤ tt) (lit≤ tt),
)

pub widest_gap : WidestGap
unfolding after stepped effect_of performed decide_of on_event parse encode header_bytes diff
widest_gap = (
  risen_judges,
  refl,
  refl,
  lit≤ tt,
  lit≤ tt,
  lit≤ tt,
  lit≤ tt,
  gap_is_delivered risen (reading 131) (life_sign 5 70 115 66) roomy initiator.queue (stamped 5 70 115 66) false
      risen_judges refl (lit≤ tt) (lit≤ tt) (lit≤ tt) (lit≤ tt),
)

turn_delivers : delivers (next initiator rising in_turn) ≡ true
unfolding after stepped effect_of performed decide_of on_event parse encode header_bytes diff
turn_delivers = refl

gap_delivers : delivers (next initiator until_heard gapped) ≡ true
unfolding after stepped effect_of performed decide_of on_event parse encode header_bytes slot_bytes slot_data diff
gap_delivers = refl

pub delivered_in_turn : DeliveredInTurn
unfolding after stepped effect_of performed decide_of on_event parse encode header_bytes diff
delivered_in_turn =
    let got = user_gets_delivered initiator (calls_in rising) in_turn 3 refl in
    ((refl, refl), refl, got.0, delivered_is_fresh initiator (refl, refl) (calls_in rising) in_turn turn_delivers, got.1, got.2)

pub delivered_after_gap : DeliveredAfterGap
unfolding after stepped effect_of performed decide_of on_event parse encode header_bytes slot_bytes slot_data diff
delivered_after_gap =
    let got = user_gets_delivered initiator (calls_in until_heard) gapped 1 refl in
    ((refl, refl), refl, got.0, delivered_is_fresh initiator (refl, refl) (calls_in until_heard) gapped gap_delivers, got.1, got.2)
