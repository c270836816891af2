-- Failures, reports, releases, kind 6 and numbers: the runs computed, and the claims applied to them.
use mathlib.Core.List.{[], ◌∷◌, ◌++◌}
use mathlib.Core.Path.{refl}
use Rattle.judge.specs.Difference.{diff}
use Rattle.queue.specs.Ring.{slot_bytes, slot_data}
use Rattle.wire.specs.Message.{parse, encode, header_bytes}
use Rattle.rules.specs.Decide.{decide_of, on_event}
use Rattle.rules.specs.Perform.{performed}
use Rattle.rules.specs.Step.{effect_of, stepped}
use Rattle.run.specs.Run.{after, history}
use Rattle.history.specs.Seen.{seen, stands_up}
use Rattle.history.specs.Failures.{failures_since}
use Rattle.history.specs.Reports.{trace}
use Rattle.history.specs.LifeSigns.{kind6_since}
use Rattle.history.specs.Echoes.{echo_since}
use Rattle.history.specs.Numbering.{sent_in_connection}
use Rattle.history.proofs.Failures.{failures_below_limit}
use Rattle.history.proofs.Reports.{data_only_accepted}
use Rattle.history.proofs.Release.{released_is_down}
use Rattle.history.proofs.LifeSigns.{speaks_while_up}
use Rattle.history.proofs.Echoes.{echoes_last_accepted}
use Rattle.history.proofs.Numbering.{numbering}
use Rattle.witness.specs.Ends.{initiator, called, tick, confirm, user}
use Rattle.witness.specs.Table.{calls_in}
use Rattle.witness.specs.Initiator.{rising, in_turn, until_full, until_heard, gapped, until_late, again, until_down, resting, until_asked, wrong_echo}
use Rattle.witness.specs.Called.{answering, until_held}
use Rattle.witness.specs.Failures.{OneFailureStands}
use Rattle.witness.specs.Reports.{UpsAndDowns, StandsUpTwice, DataInTurn, DataAfterGap}
use Rattle.witness.specs.Release.{ReleasesUp, ReleasesStarting, ReleasesNothing}
use Rattle.witness.specs.LifeSigns.{AllSpeak, NoneHasLeft, OneHasLeft}
use Rattle.witness.specs.Numbering.{SixthIsNumbered, FirstAgain, NumbersEnd, FirstEchoesNothing, SixthEchoesTheLast}

pub one_failure_stands : OneFailureStands
unfolding seen stands_up failures_since history after stepped effect_of performed decide_of on_event parse encode header_bytes slot_bytes slot_data diff
one_failure_stands = ((refl, refl), refl, refl, refl, failures_below_limit initiator (refl, refl) (calls_in until_late))

pub ups_and_downs_lem : UpsAndDowns
unfolding trace seen history after stepped effect_of performed decide_of on_event parse encode header_bytes slot_bytes slot_data diff
ups_and_downs_lem = refl

pub stands_up_twice : StandsUpTwice
unfolding seen stands_up history after stepped effect_of performed decide_of on_event parse encode header_bytes slot_bytes slot_data diff
stands_up_twice = (refl, refl, refl)

pub data_in_turn : DataInTurn
unfolding after stepped effect_of performed decide_of on_event parse encode header_bytes diff
data_in_turn = (refl, refl, data_only_accepted initiator (calls_in rising) in_turn refl)

pub data_after_gap : DataAfterGap
unfolding after stepped effect_of performed decide_of on_event parse encode header_bytes slot_bytes slot_data diff
data_after_gap = (refl, refl, refl, data_only_accepted initiator (calls_in until_heard) gapped refl)

pub releases_up : ReleasesUp
unfolding seen stands_up history after stepped effect_of performed decide_of on_event parse encode header_bytes slot_bytes slot_data diff
releases_up = (refl, refl, refl, released_is_down initiator (calls_in until_late) again refl)

pub releases_starting : ReleasesStarting
unfolding seen stands_up history after stepped effect_of performed decide_of on_event parse encode header_bytes slot_bytes slot_data diff
releases_starting = (refl, refl, refl, released_is_down initiator (calls_in until_asked) wrong_echo refl)

pub releases_nothing : ReleasesNothing
unfolding after stepped effect_of performed decide_of on_event parse encode header_bytes diff
releases_nothing = (refl, refl)

pub all_speak : AllSpeak
unfolding after stepped effect_of performed decide_of on_event parse encode header_bytes slot_bytes slot_data diff
all_speak = (
  (refl, speaks_while_up called (calls_in answering) (tick 166) refl),
  (refl, speaks_while_up called (calls_in answering) (user 67 (5 ∷ [])) refl),
  (refl, speaks_while_up called (calls_in until_held) (tick 170) refl),
)

pub none_has_left : NoneHasLeft
unfolding seen kind6_since history after stepped effect_of performed decide_of on_event parse encode header_bytes diff
none_has_left = (refl, refl)

pub one_has_left : OneHasLeft
unfolding seen kind6_since history after stepped effect_of performed decide_of on_event parse encode header_bytes slot_bytes slot_data diff
one_has_left = (refl, refl)

pub sixth_is_numbered : SixthIsNumbered
unfolding sent_in_connection history after stepped effect_of performed decide_of on_event parse encode header_bytes slot_bytes slot_data diff
sixth_is_numbered = (refl, refl, refl, numbering initiator (calls_in until_full) (tick 129) refl)

pub first_again : FirstAgain
unfolding sent_in_connection history after stepped effect_of performed decide_of on_event parse encode header_bytes slot_bytes slot_data diff
first_again = (refl, refl, refl, numbering initiator (tick 200 ∷ calls_in (until_down ++ resting)) (confirm 201) refl)

pub first_echoes_nothing : FirstEchoesNothing
unfolding echo_since history after stepped effect_of performed decide_of on_event parse encode header_bytes slot_bytes slot_data diff
first_echoes_nothing = (refl, refl, refl, echoes_last_accepted initiator (tick 100 ∷ []) (confirm 103) refl)

pub sixth_echoes_the_last : SixthEchoesTheLast
unfolding echo_since history after stepped effect_of performed decide_of on_event parse encode header_bytes slot_bytes slot_data diff
sixth_echoes_the_last = (refl, refl, refl, echoes_last_accepted initiator (calls_in until_full) (tick 129) refl)

pub numbers_end : NumbersEnd
unfolding stepped effect_of performed decide_of on_event encode header_bytes diff
numbers_end = (refl, refl)
