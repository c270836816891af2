-- The tests of code, turned into the tests of definitions: `search tests` closes a return that only branches lead to.
use mathlib.Core.Bool.{Bool, true, false, cond}
use mathlib.Core.Path.{◌≡◌, refl}
use borrow.Author.Tests.{eq-eqb, ne_eqb, le-leb, lt-leb, lt-ltb, le-ltb}

pub ruleset tests = (eq-eqb, ne_eqb, le-leb, lt-leb, lt-ltb, le-ltb)

-- what holds at either outcome of a test holds of the choice that the test makes
pub by_test {ℓ ℓ'} : {A : Type ℓ} (P : A → Type ℓ') (b : Bool) {x y : A} → (b ≡ true → P x) → (b ≡ false → P y) → P (cond b x y)
by_test P true yes' no' = yes' refl
by_test P false yes' no' = no' refl
