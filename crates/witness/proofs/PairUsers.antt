-- What the users of the long run handed in and received, computed; what follows, by the claims of two ends.
use mathlib.Core.List.{◌∷◌}
use mathlib.Core.Path.{refl}
use Rattle.judge.specs.Difference.{diff}
use Rattle.queue.specs.Ring.{slot_bytes, slot_data}
use Rattle.wire.specs.Message.{parse, encode, header_bytes}
use Rattle.rules.specs.Decide.{decide_of, on_event}
use Rattle.rules.specs.Perform.{performed}
use Rattle.rules.specs.Step.{effect_of, stepped}
use Rattle.pair.specs.Run.{after}
use Rattle.pair.specs.Run.Move.{wait}
use Rattle.pair.proofs.Claims.{data_are_the_users, users_get_what_users_gave}
use Rattle.witness.specs.PairTable.{comes, moves_in, reached_later}
use Rattle.witness.specs.PairJourney.{start, journey, rising, until_near, l3, l4}
use Rattle.witness.specs.PairOrder.{ended}
use Rattle.witness.specs.PairUsers.{handed_at_left, handed_at_right, got_at_left, got_at_right, UsersTalk, FirstDataCome, DataComeOverTheWrap}
use Rattle.witness.proofs.PairSame.{same_data}
use Rattle.witness.proofs.PairLawful.{is_lawful_lem, run_of}
use Rattle.witness.proofs.PairJourney.{journey_happens}

pub users_talk : UsersTalk
unfolding after stepped effect_of performed decide_of on_event parse encode header_bytes slot_bytes slot_data diff
users_talk =
    let it = users_get_what_users_gave start journey_happens.sound (moves_in journey) journey_happens.run in
    record {
      left_handed = same_data ended.left.handed handed_at_left refl;
      right_handed = same_data ended.right.handed handed_at_right refl;
      left_received = same_data ended.left.received got_at_left refl;
      right_received = same_data ended.right.received got_at_right refl;
      to_left = it.0;
      to_right = it.1;
    }

pub first_data_come : FirstDataCome
unfolding after stepped effect_of performed decide_of on_event parse encode header_bytes slot_bytes slot_data diff
first_data_come =
    let w = reached_later start rising 3 in
    let may = is_lawful_lem w w.right w.left (comes l3) refl in
    let all = data_are_the_users start journey_happens.sound (wait 3 ∷ moves_in rising) (run_of start rising refl, tt) in
    record { may = may; front = refl; users = all.1 (comes l3) 3 may refl }

pub data_come_over_the_wrap : DataComeOverTheWrap
unfolding after stepped effect_of performed decide_of on_event parse encode header_bytes slot_bytes slot_data diff
data_come_over_the_wrap =
    let w = reached_later start until_near 20 in
    let may = is_lawful_lem w w.right w.left (comes l4) refl in
    let all = data_are_the_users start journey_happens.sound (wait 20 ∷ moves_in until_near) (run_of start until_near refl, tt) in
    record { may = may; front = refl; users = all.1 (comes l4) 1 may refl }
