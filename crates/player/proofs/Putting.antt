-- Laws of putting bytes into a text, one after the other.
use Prim.Native.Nat.{ℕ, suc, ◌+◌, ◌*◌, ◌<◌, ◌/◌, ◌%◌}
use native.Mathlib.Omega.{arith}
use mathlib.Core.List.{List, [], ◌∷◌, ◌++◌}
use mathlib.Core.Path.{◌≡◌, refl, ap, ◌∙◌}
use lib.ListN.{length, length-append, set, get_or, take}
use lib.Seq.{sets, take-suc}
use Rattle.std.proofs.Common.{add-one}
use Rattle.script.specs.Words.{digit_of, hex_of}
use Rattle.player.specs.Puts.{Puts}
use Rattle.player.specs.declared.text.Text.{Text}

sets_then : (a b l : List ℕ) (i : ℕ) → sets (sets l i a) (i + length a) b ≡ sets l i (a ++ b)
sets_then [] b l i = ap (λ (k : ℕ). sets l k b) (omega arith)
sets_then (x ∷ a) b l i =
    ap (λ (k : ℕ). sets (sets (set l i x) (suc i) a) k b) (omega arith) ∙ sets_then a b (set l i x) (suc i)

pub puts_nothing : {t : Text} → Puts t [] t
puts_nothing = record { lent = refl; as_long = refl; put = record { next = omega arith; stored = refl } }

pub puts_then : (a b : List ℕ) {s t u : Text} → Puts s a t → Puts t b u → Puts s (a ++ b) u
puts_then a b {s} {t} {u} p q =
    record {
      lent = q.lent ∙ p.lent;
      as_long = q.as_long ∙ p.as_long;
      put =
          record {
            next = (let len = length-append a b in omega (arith, len, p.put.next, q.put.next));
            stored =
                q.put.stored ∙ ap (λ (l : List ℕ). sets l t.to b) p.put.stored
                ∙ ap (λ (k : ℕ). sets (sets s.bytes.now s.to a) k b) p.put.next
                ∙ sets_then a b s.bytes.now s.to;
          };
    }

-- ---- digits

hex_of-append : (a b : List ℕ) → hex_of (a ++ b) ≡ hex_of a ++ hex_of b
hex_of-append [] b = refl
hex_of-append (x ∷ a) b = ap (λ (l : List ℕ). digit_of (x / 16) ∷ digit_of (x % 16) ∷ l) (hex_of-append a b)

-- one more byte
pub hex_of-take : (s : List ℕ) (i : ℕ) → i < length s
    → hex_of (take (i + 1) s) ≡ hex_of (take i s) ++ (digit_of (get_or s i 0 / 16) ∷ digit_of (get_or s i 0 % 16) ∷ [])
hex_of-take s i inside = rw (add-one, take-suc s i 0 inside, hex_of-append)

-- two digits a byte
pub hex_length : (s : List ℕ) → length (hex_of s) ≡ 2 * length s
hex_length [] = refl
hex_length (b ∷ s) = let rest = hex_length s in omega arith
