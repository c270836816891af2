-- Laws of writing over the front of a list, and into the part of it that starts later.
use Prim.Native.Nat.{ℕ, ◌+◌, ◌-◌, ◌≤◌, ◌<◌}
use native.Mathlib.Nat.{zero-add, le_of_eq}
use mathlib.Core.Path.{◌≡◌, refl, ap, sym, ◌∙◌}
use mathlib.Core.List.{List, ◌++◌, append_assoc, append-nil}
use borrow.Author.Tests.{le-leb, lt-leb}
use lib.ListN.{length, take, drop, set, length-append, length-drop, drop_of_length-le}
use lib.Seq.{sets, sets-eq, take_at, drop_at, drop-drop, take_all}
use Rattle.wire.specs.Bytes.{bytes_of}
use Rattle.wire.specs.Message.{header_bytes}
use Rattle.wire.specs.Writing.{over, placed, placed_count}
use Rattle.wire.specs.declared.message.Header.{Header}

-- stores from place 0 on, one after the other, are the bytes over the front
pub stored_over : (b s : List ℕ) → length b ≤ length s → sets s 0 b ≡ over b s
stored_over b s fits =
    sets-eq b s 0 (rw zero-add fits) ∙ ap (λ (k : ℕ). b ++ drop k s) (zero-add (length b))

pub header_length : (kind : ℕ) (h : Header) → length (header_bytes kind h) ≡ 15
unfolding header_bytes
header_length kind h = refl

-- the stores of a header
pub header_stored : (kind : ℕ) (h : Header) (s : List ℕ) → 15 ≤ length s
    → sets (sets (sets (sets (set s 0 kind) 1 (bytes_of 2 h.number)) 3 (bytes_of 4 h.stamps.sent.0)) 7 (bytes_of 4 h.stamps.echo.0)) 11 (bytes_of 4 h.stamps.receipt.0)
    ≡ over (header_bytes kind h) s
unfolding header_bytes
header_stored kind h s fits = stored_over (header_bytes kind h) s fits

-- ---- the part of a list from place n to its end, lent and handed back

pub tail_lent : (n : ℕ) (xs : List ℕ) → take (length xs - n) (drop n xs) ≡ drop n xs
tail_lent n xs = take_all _ _ (le_of_eq (length-drop n xs))

pub tail_back : (n : ℕ) (xs ys : List ℕ) → take n xs ++ (ys ++ drop (length xs - n) (drop n xs)) ≡ take n xs ++ ys
tail_back n xs ys =
    ap (λ (l : List ℕ). take n xs ++ (ys ++ l)) (drop_of_length-le (drop n xs) (le_of_eq (length-drop n xs)))
    ∙ ap (λ (l : List ℕ). take n xs ++ l) (append-nil ys)

-- a written over the front, and then b over the part past it, is both over the front
pub part_over : (a b s xs ys : List ℕ) (n : ℕ) → length a ≡ n → xs ≡ over a s
    → ys ≡ over b (take (length xs - n) (drop n xs))
    → take n xs ++ (ys ++ drop (length xs - n) (drop n xs)) ≡ over (a ++ b) s
part_over a b s xs ys n len front back =
    let rest : drop n xs ≡ drop n s =
    ap (drop n) front ∙ drop_at a (drop (length a) s) n len ∙ ap (λ (k : ℕ). drop k s) len in
    let past : drop (length b) (drop n s) ≡ drop (length (a ++ b)) s =
    drop-drop (length b) n s ∙ ap (λ (k : ℕ). drop k s) (ap (λ (k : ℕ). k + length b) (sym len) ∙ sym (length-append a b)) in
    tail_back n xs ys
    ∙ ap (λ (l : List ℕ). take n l ++ ys) front
    ∙ ap (λ (l : List ℕ). l ++ ys) (take_at a (drop (length a) s) n len)
    ∙ ap (λ (l : List ℕ). a ++ l) (back ∙ ap (over b) (tail_lent n xs ∙ rest))
    ∙ sym (append_assoc a b (drop (length b) (drop n s)))
    ∙ ap (λ (l : List ℕ). (a ++ b) ++ l) past

-- ---- room

module _ (b s : List ℕ) (n : ℕ) (len : length b ≡ n) where
  pub no_room : length s < n → (0 ≡ placed_count b s) × (s ≡ placed b s)
  no_room short = let t = lt-leb (length b) (length s) (rw len short) in (rw t, rw t)

  pub with_room : n ≤ length s → (n ≡ placed_count b s) × (over b s ≡ placed b s)
  with_room fits = let t = le-leb (length b) (length s) (rw len fits) in (rw t (sym len), rw t)

pub whole_length : (kind : ℕ) (h : Header) (b : List ℕ) → length (header_bytes kind h ++ b) ≡ 15 + length b
whole_length kind h b = length-append (header_bytes kind h) b ∙ ap (λ (k : ℕ). k + length b) (header_length kind h)
