-- A list cut into parts of one length.
use Prim.Native.Nat.{ℕ, zero, suc, ◌+◌, ◌*◌, ◌<◌}
use native.Mathlib.Nat.{zero-mul}
use native.Mathlib.Omega.{arith}
use mathlib.Core.List.{List}
use mathlib.Core.Path.{◌≡◌, ap, sym, ◌∙◌}
use lib.ListN.{get_or, take, drop}
use lib.Seq.{drop-drop}
use Rattle.std.specs.Simd.{first_chunks}

-- part i of k of n each
pub part_at : {A : Type 0} (n k i : ℕ) (l : List A) (d : List A) → i < k → get_or (first_chunks n k l) i d ≡ take n (drop (i * n) l)
part_at n zero i l d small = absurd (omega arith)
part_at n (suc k) zero l d small = ap (λ (j : ℕ). take n (drop j l)) (sym (zero-mul n))
part_at n (suc k) (suc i) l d small =
    let e : n + i * n ≡ suc i * n = omega arith in
    part_at n k i (drop n l) d (omega arith)
    ∙ ap (take n) (drop-drop (i * n) n l ∙ ap (λ (j : ℕ). drop j l) e)
