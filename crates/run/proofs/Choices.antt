-- Laws of tests and choices.
use mathlib.Core.Bool.{Bool, true, false, cond, ◌&&◌, ◌||◌, false≢true}
use mathlib.Core.Logic.{◌⊎◌, inl, inr}
use mathlib.Core.Path.{◌≡◌, refl, sym, ap, ◌∙◌}

-- a test does not come out both ways
pub never : {A : Type 0} (b : Bool) → b ≡ false → b ≡ true → A
never b off on = absurd (false≢true (sym off ∙ on))

-- what does not hold fails
pub not-true : (t : Bool) → (t ≡ true → ⊥) → t ≡ false
not-true true other = absurd (other refl)
not-true false other = refl

pub and-false : (t : Bool) → t && false ≡ false
and-false true = refl
and-false false = refl

pub or-true : (x y : Bool) → x || y ≡ true → (x ≡ true) ⊎ (y ≡ true)
or-true true y t = inl refl
or-true false y t = inr t

pub or-false : (x y : Bool) → x || y ≡ false → (x ≡ false) × (y ≡ false)
or-false true y is = absurd (false≢true (sym is))
or-false false y is = (refl, is)

pub or_left : (x y : Bool) → x ≡ true → x || y ≡ true
or_left x y is = ap (λ (t : Bool). t || y) is

pub or_right : (x y : Bool) → y ≡ true → x || y ≡ true
or_right true y is = refl
or_right false y is = is

pub either_false : (t : Bool) → cond t false false ≡ false
either_false true = refl
either_false false = refl

pub same_false : (t : Bool) → cond t false t ≡ false
same_false true = refl
same_false false = refl
