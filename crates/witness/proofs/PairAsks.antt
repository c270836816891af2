-- The run with two asks, computed.
use native.Mathlib.Omega.{arith}
use mathlib.Core.Bool.{false≢true}
use mathlib.Core.List.{[], ◌∷◌}
use mathlib.Core.Logic.{inl}
use mathlib.Core.Path.{refl, ap}
use lib.Dec.{eqb}
use Rattle.judge.specs.Difference.{diff}
use Rattle.queue.specs.Ring.{slot_bytes, slot_data}
use Rattle.wire.specs.Message.{parse, encode, header_bytes}
use Rattle.rules.specs.Decide.{decide_of, on_event}
use Rattle.rules.specs.Perform.{performed}
use Rattle.rules.specs.Step.{effect_of, stepped}
use Rattle.pair.specs.Run.{after}
use Rattle.pair.specs.Channel.{MayHandOver}
use Rattle.pair.specs.Run.{Lawful}
use Rattle.witness.specs.PairTable.{of, connect, reached}
use Rattle.witness.specs.PairAsks.{start, l0, asking, apart, AskingHappens, OlderAskAnswered, NewerAskAnswered}
use Rattle.witness.proofs.PairSame.{same_letters, same_data}
use Rattle.witness.proofs.PairLawful.{only_none}
use Rattle.witness.proofs.PairShown.{happens}

pub asking_happens : AskingHappens
unfolding after stepped effect_of performed decide_of on_event parse encode header_bytes slot_bytes slot_data diff
asking_happens = happens start asking (record { left = record { sound = (refl, refl); in_role = refl }; right = record { sound = (refl, refl); in_role = refl } }) refl refl

not_over_lem : MayHandOver apart.time apart.right apart.left l0 → ⊥
unfolding after stepped effect_of performed decide_of on_event parse encode header_bytes slot_bytes slot_data diff
not_over_lem may = false≢true (ap (λ n. eqb n 1) may.same_connection)

not_twice_lem : Lawful apart apart.right apart.left (connect 1) → ⊥
unfolding after stepped effect_of performed decide_of on_event parse encode header_bytes slot_bytes slot_data diff
not_twice_lem law = let none = only_none 2 (1 ∷ []) 1 (λ _ _. inl refl) (law.answers_ask refl) in omega arith

pub older_ask_answered : OlderAskAnswered
unfolding after stepped effect_of performed decide_of on_event parse encode header_bytes slot_bytes slot_data diff
older_ask_answered =
    record {
      asks = refl;
      answered = refl;
      left_in = refl;
      right_in = refl;
      sent = same_letters apart.left.log (l0 ∷ []) refl;
      not_over = not_over_lem;
      not_twice = not_twice_lem;
    }

pub newer_ask_answered : NewerAskAnswered
unfolding after stepped effect_of performed decide_of on_event parse encode header_bytes slot_bytes slot_data diff
newer_ask_answered =
    record {
      answered = refl;
      left_up = refl;
      right_up = refl;
      received = same_data (reached start asking).right.received (of 2 (1 ∷ []) ∷ []) refl;
    }
