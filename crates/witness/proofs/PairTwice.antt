-- The data that are delivered twice, by computation.
use native.Mathlib.Omega.{arith}
use mathlib.Core.List.{[], ◌∷◌}
use mathlib.Core.Logic.{inl}
use mathlib.Core.Path.{refl}
use Rattle.judge.specs.Difference.{diff}
use Rattle.queue.specs.Ring.{slot_bytes, slot_data}
use Rattle.wire.specs.Message.{encode, header_bytes, parse}
use Rattle.rules.specs.Decide.{decide_of, on_event}
use Rattle.rules.specs.Perform.{performed}
use Rattle.rules.specs.Step.{effect_of, stepped}
use Rattle.pair.specs.Run.{Lawful}
use Rattle.witness.specs.PairTable.{connect}
use Rattle.witness.specs.PairTwice.{lost, DeliveredTwice}
use Rattle.witness.proofs.PairLawful.{only_none}

not_lawful_lem : Lawful lost lost.right lost.left (connect 1) → ⊥
unfolding stepped effect_of performed decide_of on_event parse encode header_bytes diff slot_data slot_bytes
not_lawful_lem law = let none = only_none 1 (1 ∷ []) 1 (λ _ _. inl refl) (law.answers_ask refl) in omega arith

pub delivered_twice : DeliveredTwice
unfolding stepped effect_of performed decide_of on_event parse encode header_bytes diff slot_data slot_bytes
delivered_twice = record { once = refl; twice = refl; not_lawful = not_lawful_lem }
