-- Lists with some left out.
use mathlib.Core.Bool.{Bool, true, false, cond, false≢true}
use mathlib.Core.List.{List, [], ◌∷◌}
use mathlib.Core.Logic.{inl, inr}
use mathlib.Core.Path.{◌≡◌, refl, sym, ap, subst}
use Rattle.pair.specs.Among.{Among, Picked}

abbrev is_empty : {A : Type 0} → List A → Bool
is_empty [] = true
is_empty (x ∷ xs) = false

abbrev tail_of : {A : Type 0} → List A → List A
tail_of [] = []
tail_of (x ∷ xs) = xs

pub picked_none : {A : Type 0} (ys : List A) → Picked [] ys
picked_none [] = refl
picked_none (y ∷ ys) = inr (picked_none ys)

-- without the first too
pub picked_tail : {A : Type 0} (x : A) (xs ys : List A) → Picked (x ∷ xs) ys → Picked xs ys
picked_tail x xs [] p = absurd (false≢true (ap is_empty p))
picked_tail x xs (y ∷ ys) (inl p) = inr (subst (λ (l : List _). Picked l ys) (sym (ap tail_of p.1)) p.2)
picked_tail x xs (y ∷ ys) (inr p) = inr (picked_tail x xs ys p)

-- what some step does to every rest, it does behind a first one too
picked_step : {A : Type 0} (z : A) (xs ys zs : List A) → ((rest : List A) → Picked rest ys → Picked rest zs) → Picked xs (z ∷ ys)
    → Picked xs (z ∷ zs)
picked_step z xs ys zs step (inl r) = inl (r.0, r.1, step r.0 r.2)
picked_step z xs ys zs step (inr r) = inr (step xs r)

pub picked_trans : {A : Type 0} (xs ys zs : List A) → Picked xs ys → Picked ys zs → Picked xs zs
picked_trans xs ys [] p q = subst (λ (l : List _). Picked xs l) q p
picked_trans xs ys (z ∷ zs) p (inr q) = inr (picked_trans xs ys zs p q)
picked_trans {A} xs ys (z ∷ zs) p (inl q) =
    picked_step z xs q.0 zs (λ rest r. picked_trans rest q.0 zs r q.2) (subst (λ (l : List A). Picked xs l) q.1 p)

-- with the same one before both, or before neither
pub picked_both : {A : Type 0} (t : Bool) (a b : A) (xs ys : List A) → a ≡ b → Picked xs ys
    → Picked (cond t (a ∷ xs) xs) (cond t (b ∷ ys) ys)
picked_both true a b xs ys same p = inl (xs, ap (λ (c : _). c ∷ xs) same, p)
picked_both false a b xs ys same p = p

pub picked_skip : {A : Type 0} (t : Bool) (b : A) (xs ys : List A) → Picked xs ys → Picked xs (cond t (b ∷ ys) ys)
picked_skip true b xs ys p = inr p
picked_skip false b xs ys p = p

-- what was picked is there
among_step : {A : Type 0} (a y : A) (xs ys : List A) → (Among a xs → Among a ys) → Among a (y ∷ xs) → Among a (y ∷ ys)
among_step a y xs ys step (inl is) = inl is
among_step a y xs ys step (inr i) = inr (step i)

pub picked_among : {A : Type 0} (a : A) (xs ys : List A) → Picked xs ys → Among a xs → Among a ys
picked_among a xs [] p i = subst (λ (l : List _). Among a l) p i
picked_among a xs (y ∷ ys) (inr p) i = inr (picked_among a xs ys p i)
picked_among {A} a xs (y ∷ ys) (inl p) i =
    among_step a y p.0 ys (picked_among a p.0 ys p.2) (subst (λ (l : List A). Among a l) p.1 i)
