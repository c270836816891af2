-- The worked clock start between two ends, computed.
use mathlib.Core.Path.{refl}
use Rattle.judge.specs.Difference.{diff}
use Rattle.queue.specs.Ring.{slot_bytes, slot_data}
use Rattle.wire.specs.Message.{parse, encode, header_bytes}
use Rattle.rules.specs.Decide.{decide_of, on_event}
use Rattle.rules.specs.Perform.{performed}
use Rattle.rules.specs.Step.{effect_of, stepped}
use Rattle.pair.specs.Run.{after}
use Rattle.witness.specs.PairSpread.{worked, whole_start, left_refuses, right_refuses, JustNarrow, JustTooWide}
use Rattle.witness.proofs.PairShown.{happens as shown}

pub just_narrow : JustNarrow
unfolding after stepped effect_of performed decide_of on_event parse encode header_bytes slot_bytes slot_data diff
just_narrow =
    record {
      happens = shown (worked 9 7) whole_start (record { left = record { sound = (refl, refl); in_role = refl }; right = record { sound = (refl, refl); in_role = refl } }) refl refl;
      left_spread = refl;
      right_spread = refl;
      left_up = refl;
      right_up = refl;
    }

pub just_too_wide : JustTooWide
unfolding after stepped effect_of performed decide_of on_event parse encode header_bytes slot_bytes slot_data diff
just_too_wide =
    record {
      left = shown (worked 8 7) left_refuses (record { left = record { sound = (refl, refl); in_role = refl }; right = record { sound = (refl, refl); in_role = refl } }) refl refl;
      right = shown (worked 9 6) right_refuses (record { left = record { sound = (refl, refl); in_role = refl }; right = record { sound = (refl, refl); in_role = refl } }) refl refl;
      left_idle = refl;
      right_idle = refl;
    }
