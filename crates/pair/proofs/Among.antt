-- What holds of all that a list holds.
use mathlib.Core.List.{List, ◌∷◌}
use mathlib.Core.Logic.{inl, inr}
use mathlib.Core.Path.{sym, subst}
use Rattle.pair.specs.Among.{Among}

-- of one more, and of all that there were
pub with_new : {A : Type 0} (x : A) (xs : List A) (P : A → Type 0) → P x → ((a : A) → Among a xs → P a) → (a : A) → Among a (x ∷ xs) → P a
with_new x xs P new old a (inl is) = subst P (sym is) new
with_new x xs P new old a (inr i) = old a i
