-- Laws of playing: what a turn leaves to be played, and that the number of turns does not matter.
use Prim.Native.Nat.{ℕ, zero, suc, ◌-◌, ◌≤◌}
use native.Mathlib.Omega.{arith}
use mathlib.Core.Bool.{Bool, true, false, cond, ◌||◌, false≢true}
use mathlib.Core.List.{List, [], ◌∷◌}
use mathlib.Core.Path.{◌≡◌, refl, ap, sym, ◌∙◌}
use lib.ListN.{length, length-drop}
use Rattle.script.specs.Forms.{size_in, following}
use Rattle.script.specs.Reply.{Held, reply_to}
use Rattle.script.specs.Play.{Piece, pauses, unplayed, ended_by, joined, turn, played_by, played}
use Rattle.script.proofs.Whole.{has_size, is_whole}

same_turn : (a b : Bool) (u e : Piece) (f : Piece → Piece) (x y : Piece) → (a ≡ false → b ≡ false → x ≡ y)
    → cond a u (cond b e (f x)) ≡ cond a u (cond b e (f y))
same_turn true b u e f x y is = refl
same_turn false true u e f x y is = refl
same_turn false false u e f x y is = ap f (is refl refl)

pub rest_shorter : (h : Held) (s : List ℕ) (n : ℕ) → (reply_to h s).bad ≡ false → length s ≤ suc n → length (following s) ≤ n
rest_shorter h s n good fits = omega (arith, length-drop (size_in s) s, has_size h s good, is_whole h s good, fits)

enough : (n m : ℕ) (last : Bool) (h : Held) (s : List ℕ) (room : ℕ) → length s ≤ n → length s ≤ m
    → played_by n last h s room ≡ played_by m last h s room
unfolding played_by
enough zero zero last h s room p q = refl
enough zero (suc m) last h [] room p q = refl
enough zero (suc m) last h (x ∷ s) room p q = absurd (omega arith)
enough (suc n) zero last h [] room p q = refl
enough (suc n) zero last h (x ∷ s) room p q = absurd (omega arith)
enough (suc n) (suc m) last h s room p q =
    same_turn (pauses last s room) (reply_to h s).bad (unplayed h) (ended_by (reply_to h s)) (joined (size_in s) (reply_to h s)) _ _
    (λ goes good. enough n m last (reply_to h s).held (following s) _ (rest_shorter h s n good p) (rest_shorter h s m good q))

module _ (last : Bool) (h : Held) where
  -- a turn by the outcomes of its two tests
  abbrev Turned : List ℕ → Bool → Bool → Piece → Piece
  Turned s a b rest = cond a (unplayed h) (cond b (ended_by (reply_to h s)) (joined (size_in s) (reply_to h s) rest))

  turned : (s : List ℕ) (room : ℕ) (rest : Piece) (a b : Bool) → pauses last s room ≡ a → (reply_to h s).bad ≡ b
      → turn last h s room rest ≡ Turned s a b rest
  turned s room rest a b is bad =
      ap (λ (x : Bool). Turned s x (reply_to h s).bad rest) is ∙ ap (λ (x : Bool). Turned s a x rest) bad

  pub played_pauses : (s : List ℕ) (room : ℕ) → pauses last s room ≡ true → played last h s room ≡ unplayed h
  unfolding played_by
  played_pauses [] room rests = refl
  played_pauses (x ∷ s) room rests = turned (x ∷ s) room _ true (reply_to h (x ∷ s)).bad rests refl

  pub played_ends : (s : List ℕ) (room : ℕ) → pauses last s room ≡ false → (reply_to h s).bad ≡ true
      → played last h s room ≡ ended_by (reply_to h s)
  unfolding played_by
  played_ends [] room goes bad = absurd (false≢true (sym goes))
  played_ends (x ∷ s) room goes bad = turned (x ∷ s) room _ false true goes bad

  -- what is left after a turn that goes on
  abbrev pub left : List ℕ → ℕ → Piece
  left s room = played last (reply_to h s).held (following s) (room - length (reply_to h s).text)

  pub played_goes : (s : List ℕ) (room : ℕ) → pauses last s room ≡ false → (reply_to h s).bad ≡ false
      → played last h s room ≡ joined (size_in s) (reply_to h s) (left s room)
  unfolding played_by
  played_goes [] room goes good = absurd (false≢true (sym goes))
  played_goes (x ∷ s) room goes good =
      turned (x ∷ s) room _ false false goes good
      ∙ ap (joined (size_in (x ∷ s)) (reply_to h (x ∷ s)))
      (enough (length s) (length (following (x ∷ s))) last (reply_to h (x ∷ s)).held (following (x ∷ s)) (room - length (reply_to h (x ∷ s)).text) (rest_shorter h (x ∷ s) (length s) good (omega arith)) (omega arith))

-- ---- the test of a turn

pub both_false : (a b : Bool) → a || b ≡ false → (a ≡ false) × (b ≡ false)
both_false true b is = absurd (false≢true (sym is))
both_false false b is = (refl, is)
