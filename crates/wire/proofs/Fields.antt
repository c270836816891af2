-- The header of a message: written and read back, read and written back.
use Prim.Native.Nat.{ℕ, ◌+◌, ◌^◌, ◌≤◌, ◌<◌}
use native.Mathlib.Nat.{mod-eq_of_lt}
use native.Mathlib.Omega.{arith}
use mathlib.Core.Path.{◌≡◌, refl, ap, sym, ◌∙◌}
use mathlib.Core.List.{List, [], ◌∷◌, ◌++◌}
use lib.ListN.{length, get_or, take, drop}
use lib.Seq.{take-add, drop-cons}
use Rattle.wire.specs.Bytes.{bytes_of, number_at, AreBytes}
use Rattle.wire.specs.Message.{header_bytes, header_in}
use Rattle.wire.specs.declared.message.Header.{Header}
use Rattle.wire.proofs.Digits.{written_reads, read_writes}

-- a field of n bytes at place i that was written there
pub field_reads : (n x : ℕ) (s : List ℕ) (i : ℕ) → x < 256 ^ n → take n (drop i s) ≡ bytes_of n x → number_at n s i ≡ x
field_reads n x s i fits e = written_reads n x s i e ∙ mod-eq_of_lt fits

pub header_reads : (kind : ℕ) (h : Header) (q : List ℕ) → h.number < 2 ^ 16 → h.stamps.sent.0 < 2 ^ 32
    → h.stamps.echo.0 < 2 ^ 32 → h.stamps.receipt.0 < 2 ^ 32 → header_in (header_bytes kind h ++ q) ≡ h
unfolding header_bytes
header_reads kind h q number sent echo receipt =
    let s = header_bytes kind h ++ q in
    let a : number_at 2 s 1 ≡ h.number = field_reads 2 h.number s 1 number refl in
    let b : number_at 4 s 3 ≡ h.stamps.sent.0 = field_reads 4 h.stamps.sent.0 s 3 sent refl in
    let c : number_at 4 s 7 ≡ h.stamps.echo.0 = field_reads 4 h.stamps.echo.0 s 7 echo refl in
    let d : number_at 4 s 11 ≡ h.stamps.receipt.0 = field_reads 4 h.stamps.receipt.0 s 11 receipt refl in
    λ i. record {
      stamps = record { sent = record { 0 = b i }; echo = record { 0 = c i }; receipt = record { 0 = d i } };
      number = a i;
    }

-- the first bytes of s, one run after the other
join : (n m : ℕ) (s : List ℕ) → take n s ++ take m (drop n s) ≡ take (n + m) s
join n m s = sym (take-add n m s)

pub header_writes : (kind : ℕ) (s : List ℕ) → AreBytes s → 15 ≤ length s → get_or s 0 0 ≡ kind
    → header_bytes kind (header_in s) ≡ take 15 s
unfolding header_bytes
header_writes kind s bytes fits first =
    let a : kind ∷ [] ≡ take 1 s =
    ap (λ (k : ℕ). k ∷ []) (sym first) ∙ ap (take 1) (sym (drop-cons s 0 0 (omega arith))) in
    ap (λ (l : List ℕ). l ++ bytes_of 2 (number_at 2 s 1) ++ bytes_of 4 (number_at 4 s 3) ++ bytes_of 4 (number_at 4 s 7) ++ bytes_of 4 (number_at 4 s 11)) a
    ∙ simp (read_writes 2 s 1 bytes (omega arith), read_writes 4 s 3 bytes (omega arith), read_writes 4 s 7 bytes (omega arith), read_writes 4 s 11 bytes (omega arith))
    (simp (join 1 2 s, join 3 4 s, join 7 4 s, join 11 4 s))
