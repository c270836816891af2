-- The two long runs, computed.
use mathlib.Core.Path.{refl}
use Rattle.judge.specs.Difference.{diff}
use Rattle.queue.specs.Ring.{slot_bytes, slot_data}
use Rattle.wire.specs.Message.{parse, encode, header_bytes}
use Rattle.rules.specs.Decide.{decide_of, on_event}
use Rattle.rules.specs.Perform.{performed}
use Rattle.rules.specs.Step.{effect_of, stepped}
use Rattle.run.specs.Run.{after, history}
use Rattle.witness.specs.Initiator.{InitiatorHappens}
use Rattle.witness.specs.Called.{CalledHappens}

pub initiator_happens : InitiatorHappens
unfolding history after stepped effect_of performed decide_of on_event parse encode header_bytes slot_bytes slot_data diff
initiator_happens = ((refl, refl), refl)

pub called_happens : CalledHappens
unfolding history after stepped effect_of performed decide_of on_event parse encode header_bytes slot_bytes slot_data diff
called_happens = ((refl, refl), refl)
