-- A table that is looked up by number.
use Rattle.std.specs.Prelude.{ℕ, cond, List, [], ◌∷◌, eqb}

pub record Row (A : Type 0) : Type 0 where
  pub key : ℕ
  pub value : A

-- what stands under a key first, or `none` where nothing does
abbrev pub lookup : {A : Type 0} → List (Row A) → ℕ → A → A
lookup [] key none = none
lookup (r ∷ rs) key none = cond (eqb key r.key) r.value (lookup rs key none)
