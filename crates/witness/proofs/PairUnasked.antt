-- The run with accepts that answer no ask, computed; that nothing may be handed over, by the claim of two ends.
use Prim.Native.Nat.{ℕ}
use native.Mathlib.Omega.{arith}
use mathlib.Core.List.{[], ◌∷◌}
use mathlib.Core.Logic.{inl}
use mathlib.Core.Path.{◌≡◌, refl}
use Rattle.judge.specs.Difference.{diff}
use Rattle.queue.specs.Ring.{slot_bytes, slot_data}
use Rattle.wire.specs.Message.{parse, encode, header_bytes}
use Rattle.rules.specs.Decide.{decide_of, on_event}
use Rattle.rules.specs.Perform.{performed}
use Rattle.rules.specs.Step.{effect_of, stepped}
use Rattle.pair.specs.Run.{SoundBeginning, Lawful, after}
use Rattle.pair.proofs.Claims.{nothing_comes_unasked}
use Rattle.witness.specs.PairTable.{of, connect, moves_in, reached}
use Rattle.witness.specs.PairUnasked.{start, l0, early, until_up, until_strayed, unasked, UnaskedHappens, AcceptedEarly, AllAnswered, AcceptedAgain, AcceptedAnew}
use Rattle.witness.proofs.PairSame.{same_letters, same_data}
use Rattle.witness.proofs.PairLawful.{only_none, run_of}
use Rattle.witness.proofs.PairShown.{happens}

sound : SoundBeginning start
sound = record { left = record { sound = (refl, refl); in_role = refl }; right = record { sound = (refl, refl); in_role = refl } }

pub unasked_happens : UnaskedHappens
unfolding after stepped effect_of performed decide_of on_event parse encode header_bytes slot_bytes slot_data diff
unasked_happens = happens start unasked sound refl refl

pub accepted_early : AcceptedEarly
unfolding after stepped effect_of performed decide_of on_event parse encode header_bytes slot_bytes slot_data diff
accepted_early =
    record {
      answered = refl;
      sent = same_letters (reached start early).left.log (l0 ∷ []) refl;
      in_none = record {
        greeted = refl;
        in0 = refl;
        nothing = (nothing_comes_unasked start sound (moves_in early) (run_of start early refl)).1 refl;
      };
    }

none : (n : ℕ) → Lawful (reached start until_up) (reached start until_up).right (reached start until_up).left (connect n) → n ≡ 0
unfolding after stepped effect_of performed decide_of on_event parse encode header_bytes slot_bytes slot_data diff
none n law = only_none 1 (1 ∷ []) n (λ some made. inl (omega arith)) (law.answers_ask refl)

pub all_answered : AllAnswered
unfolding after stepped effect_of performed decide_of on_event parse encode header_bytes slot_bytes slot_data diff
all_answered = record { left_up = refl; right_up = refl; answered = refl; none = none }

pub accepted_again_lem : AcceptedAgain
unfolding after stepped effect_of performed decide_of on_event parse encode header_bytes slot_bytes slot_data diff
accepted_again_lem =
    record {
      answered = refl;
      left_up = refl;
      in_none = record {
        greeted = refl;
        in0 = refl;
        nothing = (nothing_comes_unasked start sound (moves_in until_strayed) (run_of start until_strayed refl)).1 refl;
      };
    }

pub accepted_anew : AcceptedAnew
unfolding after stepped effect_of performed decide_of on_event parse encode header_bytes slot_bytes slot_data diff
accepted_anew =
    record {
      answered = refl;
      left_up = refl;
      right_up = refl;
      handed = same_data (reached start unasked).left.handed (of 2 (4 ∷ []) ∷ of 1 (3 ∷ []) ∷ of 1 (1 ∷ []) ∷ []) refl;
      received = same_data (reached start unasked).right.received (of 2 (4 ∷ []) ∷ of 1 (1 ∷ []) ∷ []) refl;
      received_back = same_data (reached start unasked).left.received (of 1 (2 ∷ []) ∷ []) refl;
    }
