-- Numbers of any width, read and written at any place.
use Prim.Native.Nat.{ℕ, zero, suc, ◌+◌, ◌-◌, ◌*◌, ◌^◌, ◌<◌, ◌≤◌}
use denote.Param.Members.{Mut, Called}
use native.Mathlib.Nat.{add-zero, zero-add}
use native.Mathlib.Omega.{arith}
use borrow.Rule.Slice.PartMut.{put_mid}
use mathlib.Core.List.{List, [], ◌∷◌, ◌++◌, append_assoc}
use mathlib.Core.Path.{◌≡◌, refl, ap, ap₂, sym, subst, ◌∙◌}
use lib.ListN.{length, get_or, set, take, drop, length-set}
use lib.Seq.{sets, sets-eq, set_out, get_or-take, get_or-drop, drop-drop, length-take-le}
use Rattle.std.specs.Array.{IsFromFnResult, IsFromFnResultFrom}
use Rattle.wire.specs.Bytes.{number_at}

-- ---- reading

-- a number is told by its bytes
same_number : (n : ℕ) (s t : List ℕ) (i j : ℕ) → ((k : ℕ) → k < n → get_or s (i + k) 0 ≡ get_or t (j + k) 0)
    → number_at n s i ≡ number_at n t j
same_number zero s t i j same = refl
same_number (suc n) s t i j same =
    let here : get_or s i 0 ≡ get_or t j 0 = simp add-zero at (same 0 (omega arith)) in
    ap₂ (λ (a b : ℕ). a * 256 ^ n + b) here
    (same_number n s t (i + 1) (j + 1) (λ k small.
    let a : i + 1 + k ≡ i + suc k = omega arith in
    let b : j + 1 + k ≡ j + suc k = omega arith in rw (a, b) (same (suc k) (omega arith))))

pub read_whole : (n : ℕ) (s b : List ℕ) (at : ℕ) → b ≡ take n (drop at s) → number_at n b 0 ≡ number_at n s at
read_whole n s b at whole =
    same_number n b s 0 at (λ k small. rw (zero-add k) (
    ap (λ (l : List ℕ). get_or l k 0) whole ∙ get_or-take n (drop at s) k 0 small ∙ get_or-drop at s k 0
    ))

-- what a closure that no call changes gives at each number in turn
module _ {F : Type 0} (g : Mut F (ℕ × Unit {0}) ℕ) (value : ℕ → ℕ) (f : F)
    (one : (i y : ℕ) (f' : F) → Called g f (i, tt) y f' → (y ≡ value i) × (f' ≡ f)) where
  made_from : (n i : ℕ) (e : F) (ys : List ℕ) → e ≡ f → IsFromFnResultFrom g e ys i n → (k : ℕ) → k < n → get_or ys (i + k) 0 ≡ value (i + k)
  made_from zero i e ys same t k small = absurd (omega (arith, small))
  made_from (suc n) i e ys same t zero small =
      let called = one i t.1 t.0 (subst (λ (x : F). Called g x (i, tt) t.1 t.0) same t.3) in
      let here : i + 0 ≡ i = omega arith in
      rw here (t.2.1 0 ∙ called.0)
  made_from (suc n) i e ys same t (suc k) small =
      let called = one i t.1 t.0 (subst (λ (x : F). Called g x (i, tt) t.1 t.0) same t.3) in
      let there : i + suc k ≡ i + 1 + k = omega arith in
      rw there (made_from n (i + 1) t.0 ys called.1 t.4 k (omega (arith, small)))

  pub made : (n : ℕ) (ys : List ℕ) → IsFromFnResult g f ys n → (k : ℕ) → k < n → get_or ys k 0 ≡ value k
  made n ys all k small = let e : 0 + k ≡ k = omega arith in simp e at (made_from n 0 f ys refl all.each k small)

-- where the end cuts a number, what is missing is 0
pub read_cut : (n : ℕ) (s r b : List ℕ) (at : ℕ) → r ≡ drop at s → ((k : ℕ) → k < n → get_or b k 0 ≡ get_or r k 0) → number_at n b 0 ≡ number_at n s at
read_cut n s r b at is same =
    same_number n b s 0 at (λ k small. rw (zero-add k) (
    same k small ∙ ap (λ (l : List ℕ). get_or l k 0) is ∙ get_or-drop at s k 0
    ))

-- ---- writing

pub sets_past : (b s : List ℕ) (i : ℕ) → length s ≤ i → s ≡ sets s i b
sets_past [] s i past = refl
sets_past (a ∷ b) s i past = sets_past b s (suc i) (omega arith) ∙ ap (λ (l : List ℕ). sets l (suc i) b) (sym (set_out s i a past))

-- bytes of which the end lies past that of the list
sets_cut : (b s : List ℕ) (i n : ℕ) → i + n ≡ length s → sets s i (take n b) ≡ sets s i b
sets_cut [] s i zero is = refl
sets_cut [] s i (suc n) is = refl
sets_cut (a ∷ b) s i zero is = sets_past (a ∷ b) s i (omega arith)
sets_cut (a ∷ b) s i (suc n) is = sets_cut b (set s i a) (suc i) n (simp length-set (omega arith))

-- bytes stored as a part of the list
pub put_is_sets : (b s : List ℕ) (at k : ℕ) → length b ≡ k → at + k ≤ length s → put_mid at k s b ≡ sets s at b
put_is_sets b s at k len fits =
    ap (λ (l : List ℕ). take at s ++ (b ++ l)) (drop-drop k at s ∙ ap (λ (j : ℕ). drop (at + j) s) (sym len))
    ∙ sym (append_assoc (take at s) b (drop (at + length b) s))
    ∙ sym (sets-eq b s at (omega arith))

-- as many of the bytes as there is room for, stored as the rest of the list
pub put_cut : (b s c : List ℕ) (at : ℕ) → at ≤ length s → length s - at ≤ length b → c ≡ take (length s - at) b
    → put_mid at (length s - at) s c ≡ sets s at b
put_cut b s c at inside more same =
    let len : length c ≡ length s - at = ap length same ∙ length-take-le (length s - at) b more in
    put_is_sets c s at (length s - at) len (omega arith) ∙ ap (sets s at) same ∙ sets_cut b s at (length s - at) (omega arith)
