-- The long run, computed.
use mathlib.Core.Path.{refl}
use Rattle.judge.specs.Difference.{diff}
use Rattle.queue.specs.Ring.{slot_bytes, slot_data}
use Rattle.wire.specs.Message.{parse, encode, header_bytes}
use Rattle.rules.specs.Decide.{decide_of, on_event}
use Rattle.rules.specs.Perform.{performed}
use Rattle.rules.specs.Step.{effect_of, stepped}
use Rattle.pair.specs.Run.{after}
use Rattle.witness.specs.PairJourney.{start, journey, JourneyHappens, UpTwice}
use Rattle.witness.proofs.PairShown.{happens}

pub journey_happens : JourneyHappens
unfolding stepped effect_of performed decide_of on_event parse encode header_bytes slot_bytes slot_data diff
journey_happens = happens start journey (record { left = record { sound = (refl, refl); in_role = refl }; right = record { sound = (refl, refl); in_role = refl } }) refl refl

pub up_twice : UpTwice
unfolding after stepped effect_of performed decide_of on_event parse encode header_bytes slot_bytes slot_data diff
up_twice = ((refl, refl), (refl, refl))
