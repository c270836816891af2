-- The claims of specs/Claims.antt, each proved.
use Prim.Native.Nat.{ℕ, zero, suc, ◌+◌, ◌≤◌}
use native.Mathlib.Omega.{arith}
use mathlib.Core.Path.{◌≡◌, refl, ap, sym, ◌∙◌}
use mathlib.Core.List.{List, ◌++◌, append_assoc}
use lib.ListN.{length, take, drop, take-append-drop}
use lib.Seq.{sets, sets-eq, take_at, drop_at, length-take-le, take-add}
use Rattle.wire.specs.Bytes.{bytes_of, number_at}
use Rattle.wire.specs.Claims.{NumberReadsBack, NumberWritesBack, ReadsBack, WritesBack}
use Rattle.wire.proofs.Digits.{read_writes}
use Rattle.wire.proofs.Fields.{field_reads}
use Rattle.wire.proofs.Inverse.{reads_body, undone}
use Rattle.wire.proofs.Parsing.{reads_carried}

bytes_length : (n x : ℕ) → length (bytes_of n x) ≡ n
bytes_length zero x = refl
bytes_length (suc n) x = ap suc (bytes_length n x)

-- what was stored at a place stands there
stored_at : (v s : List ℕ) (i n : ℕ) → length v ≡ n → i + n ≤ length s → take n (drop i (sets s i v)) ≡ v
stored_at v s i n len fits =
    let rest = drop (i + length v) s in
    ap (λ (l : List ℕ). take n (drop i l)) (sets-eq v s i (omega arith) ∙ append_assoc (take i s) v rest)
    ∙ ap (take n) (drop_at (take i s) (v ++ rest) i (length-take-le i s (omega arith)))
    ∙ take_at v rest n len

pub number_reads_back : NumberReadsBack
number_reads_back n x s i fits small =
    field_reads n x (sets s i (bytes_of n x)) i small (stored_at (bytes_of n x) s i n (bytes_length n x) fits)

pub number_writes_back : NumberWritesBack
number_writes_back n s i bytes fits =
    let len = bytes_length n (number_at n s i) in
    sets-eq (bytes_of n (number_at n s i)) s i (omega arith)
    ∙ ap (λ (k : ℕ). take i s ++ bytes_of n (number_at n s i) ++ drop (i + k) s) len
    ∙ ap (λ (l : List ℕ). take i s ++ l ++ drop (i + n) s) (read_writes n s i bytes fits)
    ∙ ap (λ (l : List ℕ). l ++ drop (i + n) s) (sym (take-add i n s))
    ∙ take-append-drop (i + n) s

pub reads_back : ReadsBack
reads_back m d fits ok = reads_body m.header m.body d fits ok

pub writes_back : WritesBack
writes_back s m bytes e = let u = undone s m bytes e in (u.0, reads_carried s m e, u.1)
