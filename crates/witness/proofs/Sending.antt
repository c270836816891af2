-- Where the user's data are, computed; what follows, by the claims.
use mathlib.Core.Path.{refl}
use Rattle.judge.specs.Difference.{diff}
use Rattle.queue.specs.Ring.{slot_bytes, slot_data}
use Rattle.wire.specs.Message.{parse, encode, header_bytes}
use Rattle.rules.proofs.Lives.{apart}
use Rattle.rules.specs.Decide.{decide_of, on_event}
use Rattle.rules.specs.declared.state.Life.TheVariants.{Idle, Up}
use Rattle.rules.specs.Perform.{performed}
use Rattle.rules.specs.Step.{effect_of, stepped}
use Rattle.run.specs.Run.{after, history}
use Rattle.history.specs.Sending.{in_connection}
use Rattle.history.proofs.Sending.{sending, nothing_lost, waits_while_up}
use Rattle.witness.specs.Ends.{initiator}
use Rattle.witness.specs.Table.{calls_in}
use Rattle.witness.specs.Initiator.{until_full, until_down, until_up_again}
use Rattle.witness.specs.Sending.{EightWait, SevenAreLost, NoneInTheNext}

pub eight_wait : EightWait
unfolding in_connection history after stepped effect_of performed decide_of on_event parse encode header_bytes slot_bytes slot_data diff
eight_wait = (
  (refl, refl),
  (refl, refl, refl, refl, sending initiator (refl, refl) (calls_in until_full)),
  apart Up Idle refl,
  nothing_lost initiator (refl, refl) (calls_in until_full) (apart Up Idle refl),
)

pub seven_are_lost : SevenAreLost
unfolding in_connection history after stepped effect_of performed decide_of on_event parse encode header_bytes slot_bytes slot_data diff
seven_are_lost = (
  (refl, refl),
  (refl, refl, refl, refl, sending initiator (refl, refl) (calls_in until_down)),
  apart Idle Up refl,
  waits_while_up initiator (refl, refl) (calls_in until_down) (apart Idle Up refl),
)

pub none_in_the_next : NoneInTheNext
unfolding in_connection history after stepped effect_of performed decide_of on_event parse encode header_bytes slot_bytes slot_data diff
none_in_the_next = (refl, refl, refl, refl, sending initiator (refl, refl) (calls_in until_up_again))
