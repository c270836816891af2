-- The one law of tables.
use Prim.Native.Nat.{ℕ}
use mathlib.Core.List.{List, [], ◌∷◌}
use mathlib.Core.Path.{◌≡◌}
use borrow.Author.Tests.{eqb-true, eqb-false}
use lib.Dec.{eqb}
use Rattle.wire.specs.Table.{Row, lookup}
use Rattle.wire.proofs.Tests.{by_test}

-- what is to be shown for each row under its own key, and for a key that is none of them
abbrev pub EachRow : {A : Type 0} → (ℕ → A → Type 0) → ℕ → A → List (Row A) → Type 0
EachRow P key none [] = P key none
EachRow P key none (r ∷ rs) = (key ≡ r.key → P key r.value) × ((key ≡ r.key → ⊥) → EachRow P key none rs)

pub by_row : {A : Type 0} (P : ℕ → A → Type 0) (rows : List (Row A)) (key : ℕ) (none : A) → EachRow P key none rows
    → P key (lookup rows key none)
by_row P [] key none each = each
by_row P (r ∷ rs) key none each =
    by_test (P key) (eqb key r.key) (λ t. each.0 (eqb-true key r.key t))
    (λ t. by_row P rs key none (each.1 (eqb-false key r.key t)))
