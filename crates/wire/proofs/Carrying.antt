-- The test of train data, as facts: they are carried where they have 1 to `longest` bytes, and nowhere else.
use Prim.Native.Nat.{ℕ, ◌≤◌}
use mathlib.Core.Bool.{true, false, and-eq-true_iff}
use mathlib.Core.List.{List}
use mathlib.Core.Path.{◌≡◌}
use mathlib.Mathlib.Data.Bool.Basic.{eq-false_of_not-eq-true}
use borrow.Author.Tests.{le-leb, leb-true}
use lib.Dec.{leb}
use lib.ListN.{length}
use Rattle.wire.specs.Message.{longest}
use Rattle.wire.specs.Writing.{carries}
use Rattle.wire.specs.declared.message.Body.TheVariants.{TrainData}

module _ (d : List ℕ) where
  pub carried_is : carries TrainData d ≡ true → (1 ≤ length d) × (length d ≤ longest)
  carried_is t =
      let both = (and-eq-true_iff (leb 1 (length d)) (leb (length d) longest)).0 t in
      (leb-true 1 (length d) both.0, leb-true (length d) longest both.1)

  pub is_carried : 1 ≤ length d → length d ≤ longest → carries TrainData d ≡ true
  is_carried some few = rw (le-leb 1 (length d) some, le-leb (length d) longest few)

  pub not_carried : (1 ≤ length d → length d ≤ longest → ⊥) → carries TrainData d ≡ false
  not_carried never = eq-false_of_not-eq-true (λ t. never (carried_is t).0 (carried_is t).1)
