-- Laws of the slots of a queue: what a store changes, and what it leaves.
use Prim.Native.Nat.{ℕ, suc, ◌+◌, ◌-◌, ◌%◌, ◌≤◌}
use native.Mathlib.Nat.{eq-zero-or-pos}
use native.Mathlib.Omega.{arith}
use mathlib.Core.Logic.{⊎_elim}
use mathlib.Core.Path.{◌≡◌, refl, ap, sym, ◌∙◌}
use mathlib.Core.List.{List, [], ◌∷◌, ◌++◌, append_assoc}
use lib.ListN.{length, take, drop, set, length-drop}
use lib.Seq.{sets, sets-eq, length-sets, drop-drop, take-add, take_at, drop_at, take-take, length-take-le, take-set-le, drop-set-lt}
use Rattle.wire.specs.Bytes.{number_at}
use Rattle.wire.specs.Message.{longest}
use Rattle.wire.specs.Writing.{over}
use Rattle.wire.proofs.Fields.{field_reads}
use Rattle.wire.proofs.Over.{tail_lent, tail_back}
use Rattle.queue.specs.Ring.{places, slot_size, size, slot_start, slot_from, slot_bytes, data_length, slot_data, data_at, Sendable}

-- b over the part of s from n on, handed back, is b stored from n on
pub part_stored : (b s ys : List ℕ) (n : ℕ) → n + length b ≤ length s → ys ≡ over b (take (length s - n) (drop n s))
    → take n s ++ (ys ++ drop (length s - n) (drop n s)) ≡ sets s n b
part_stored b s ys n fits e =
    tail_back n s ys
    ∙ ap (λ (l : List ℕ). take n s ++ l) (e ∙ ap (over b) (tail_lent n s) ∙ ap (λ (l : List ℕ). b ++ l) (drop-drop (length b) n s))
    ∙ sym (append_assoc (take n s) b (drop (n + length b) s))
    ∙ sym (sets-eq b s n fits)

-- ---- what a store leaves

take-sets : (b s : List ℕ) (i n : ℕ) → n ≤ i → take n (sets s i b) ≡ take n s
take-sets [] s i n h = refl
take-sets (x ∷ b) s i n h = take-sets b (set s i x) (suc i) n (omega arith) ∙ take-set-le n s i x h

drop-sets : (b s : List ℕ) (i n : ℕ) → i + length b ≤ n → drop n (sets s i b) ≡ drop n s
drop-sets [] s i n h = refl
drop-sets (x ∷ b) s i n h = drop-sets b (set s i x) (suc i) n (omega arith) ∙ drop-set-lt n s i x (omega arith)

front : (q : List ℕ) (start : ℕ) → start ≤ length q → slot_from q start ≡ drop start (take (start + slot_size) q)
front q start fits =
    sym (ap (drop start) (take-add start slot_size q) ∙ drop_at (take start q) (slot_from q start) start (length-take-le start q fits))

slot_behind : (b q : List ℕ) (i start : ℕ) → i + length b ≤ start → slot_from (sets q i b) start ≡ slot_from q start
slot_behind b q i start h = ap (take slot_size) (drop-sets b q i start h)

slot_before : (b q : List ℕ) (i start : ℕ) → start + slot_size ≤ i → start ≤ length q → slot_from (sets q i b) start ≡ slot_from q start
slot_before b q i start h fits =
    front (sets q i b) start (rw length-sets fits)
    ∙ ap (drop start) (take-sets b q i (start + slot_size) h)
    ∙ sym (front q start fits)

-- a store into the slot of one place leaves that of each other
pub other_kept : (b q : List ℕ) (k j : ℕ) → length q ≡ size → length b ≤ slot_size → (k % places ≡ j % places → ⊥)
    → data_at (sets q (slot_start j) b) k ≡ data_at q k
other_kept b q k j len fits other =
    ap slot_data
    (⊎_elim (λ h. slot_behind b q (slot_start j) (slot_start k) (omega arith))
    (λ h. slot_before b q (slot_start j) (slot_start k) (omega arith) (omega arith))
    (eq-zero-or-pos (j % places - k % places)))

-- ---- what a slot holds

-- data that were stored are read
slot_holds : (d rest : List ℕ) → Sendable d → slot_data (take slot_size (slot_bytes d ++ rest)) ≡ d
unfolding slot_bytes slot_data
slot_holds d rest ok =
    let s = take slot_size (slot_bytes d ++ rest) in
    let n : number_at 2 s 0 ≡ length d = field_reads 2 (length d) s 0 (omega arith) refl in
    let e : data_length s ≡ length d = omega arith in
    ap (λ (k : ℕ). take k (take longest (d ++ rest))) e
    ∙ take-take (length d) longest (d ++ rest) ok.1
    ∙ take_at d rest (length d) refl

pub stored_reads : (d q : List ℕ) (start : ℕ) → start + slot_size ≤ length q → Sendable d
    → slot_data (slot_from (sets q start (slot_bytes d)) start) ≡ d
unfolding slot_bytes
stored_reads d q start fits ok =
    let rest = drop (start + length (slot_bytes d)) q in
    ap (λ (l : List ℕ). slot_data (slot_from l start)) (sets-eq (slot_bytes d) q start (omega arith) ∙ append_assoc (take start q) (slot_bytes d) rest)
    ∙ ap (λ (l : List ℕ). slot_data (take slot_size l)) (drop_at (take start q) (slot_bytes d ++ rest) start (length-take-le start q (omega arith)))
    ∙ slot_holds d rest ok

-- whatever the bytes, the data at a place can be sent
pub place_sendable : (q : List ℕ) (k : ℕ) → length q ≡ size → Sendable (data_at q k)
unfolding slot_data
place_sendable q k len =
    let s = slot_from q (slot_start k) in
    let a : length s ≡ slot_size = length-take-le slot_size (drop (slot_start k) q) (rw length-drop (omega arith)) in
    let e : length (slot_data s) ≡ data_length s = length-take-le (data_length s) (drop 2 s) (rw length-drop (omega arith)) in
    (omega arith, omega arith)
