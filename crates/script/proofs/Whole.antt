-- A record that is not bad is whole, and what follows a whole record does not change the reply to it.
use Rattle.std.specs.Prelude.{None, Option}
use Prim.Native.Nat.{ℕ, ◌≤◌, ◌<◌}
use native.Mathlib.Nat.{eq-zero-or-pos}
use native.Mathlib.Omega.{arith}
use borrow.Author.Tests.{ltb-true, ltb-false}
use mathlib.Core.Bool.{Bool, true, false, false≢true}
use mathlib.Core.List.{List, [], ◌∷◌, ◌++◌}
use mathlib.Core.Logic.{⊎_elim}
use mathlib.Core.Path.{◌≡◌, refl, ap, sym, ◌∙◌}
use lib.ListN.{length, take, drop}
use lib.Seq.{take_all, take-append-le, drop-append-le}
use Rattle.script.specs.Forms.{size_in, cut, record_bytes, following, record_in}
use Rattle.script.specs.Reply.{Held, record_reply, reply_to}
use Rattle.script.specs.declared.record.Record.{Record}

-- ---- a record that is not bad is whole

no_size : (s : List ℕ) → size_in s ≡ 0 → record_in (record_bytes s) ≡ None
unfolding record_in
no_size s none = ap (λ (n : ℕ). record_in (take n s)) none

too_short : (s : List ℕ) → cut s ≡ true → record_in (record_bytes s) ≡ None
unfolding record_in
too_short s short =
    let less = ltb-true (length s) (size_in s) short in
    ap record_in (take_all (size_in s) s (omega (arith, less))) ∙ rw short refl

bad_is_bad : (h : Held) (s : List ℕ) → record_in (record_bytes s) ≡ None → (reply_to h s).bad ≡ true
unfolding reply_to
bad_is_bad h s bad = ap (λ (r : Option Record). (record_reply h r (record_bytes s)).bad) bad

is_false : (b : Bool) → (b ≡ true → ⊥) → b ≡ false
is_false true never = absurd (never refl)
is_false false never = refl

module _ (h : Held) (s : List ℕ) (good : (reply_to h s).bad ≡ false) where
  not_bad : record_in (record_bytes s) ≡ None → ⊥
  not_bad bad = false≢true (sym good ∙ bad_is_bad h s bad)

  pub has_size : 0 < size_in s
  has_size = ⊎_elim (λ none. absurd (not_bad (no_size s none))) (λ some. some) (eq-zero-or-pos (size_in s))

  pub is_whole : size_in s ≤ length s
  is_whole = ltb-false (length s) (size_in s) (is_false (cut s) (λ short. not_bad (too_short s short)))

-- ---- what follows a whole record

size_same : (s more : List ℕ) → 0 < length s → size_in (s ++ more) ≡ size_in s
size_same [] more some = absurd (omega arith)
size_same (x ∷ s) more some = refl

module _ (s more : List ℕ) (some : 0 < length s) where
  pub reply_same : (h : Held) → cut s ≡ false → reply_to h (s ++ more) ≡ reply_to h s
  unfolding reply_to
  reply_same h uncut =
      ap (λ (b : List ℕ). record_reply h (record_in b) b)
      (ap (λ (n : ℕ). take n (s ++ more)) (size_same s more some) ∙ take-append-le (size_in s) s more (ltb-false (length s) (size_in s) uncut))

  pub following_same : size_in s ≤ length s → following (s ++ more) ≡ following s ++ more
  following_same whole =
      ap (λ (n : ℕ). drop n (s ++ more)) (size_same s more some) ∙ drop-append-le (size_in s) s more whole
