-- Numbers that wrap, against numbers that do not.
use Prim.Native.Nat.{ℕ, ◌+◌, ◌-◌, ◌%◌, ◌^◌, ◌≤◌, ◌<◌}
use native.Mathlib.Omega.{arith}
use native.Mathlib.Nat.{mod-mod, mod-add-mod}
use mathlib.Core.Path.{◌≡◌, ap, sym, ◌∙◌}
use Rattle.judge.specs.Difference.{diff}
use Rattle.judge.proofs.Difference.{diff_is, diff_adds}

-- ---- 16 bits

-- a message that is neither old nor out of the window is past all that were accepted
pub past : (number index last accepted : ℕ) → number ≡ index % 2 ^ 16 → last ≡ (accepted + 65_535) % 2 ^ 16
    → accepted ≤ index + 1 + 32_768 → 1 ≤ diff 16 number last → diff 16 number last ≤ 32_767 → accepted ≤ index
unfolding diff
past number index last accepted n l window low high = omega arith

pub number_last : (index : ℕ) → index % 2 ^ 16 ≡ (index + 1 + 65_535) % 2 ^ 16
number_last index = omega arith

pub number_next : (next sent : ℕ) → next ≡ sent % 2 ^ 16 → (next + 1) % 2 ^ 16 ≡ (sent + 1) % 2 ^ 16
number_next next sent is = omega arith

-- ---- 32 bits

abbrev Same : ℕ → ℕ → Type 0
Same a b = a % 2 ^ 32 ≡ b % 2 ^ 32

-- a reading back from its remainder
back : (a b d r : ℕ) → r ≡ b % 2 ^ 32 → Same (r + d) a → Same (b + d) a
back a b d r is same = sym (mod-add-mod b (2 ^ 32) d) ∙ ap (λ (k : ℕ). (k + d) % 2 ^ 32) (sym is) ∙ same

-- the difference of two readings, added to what the second one was read at
difference : (own peer a b : ℕ) → own ≡ a % 2 ^ 32 → peer ≡ b % 2 ^ 32 → Same (b + diff 32 own peer) a
difference own peer a b is at =
    back a b (diff 32 own peer) peer at (diff_adds 32 own peer ∙ ap (λ (k : ℕ). k % 2 ^ 32) is ∙ mod-mod a (2 ^ 32))

low_off : (low at peer then own : ℕ) → Same (at + peer + low) (then + own) → then ≤ at → Same (low + peer + (at - then)) own
low_off low at peer then own same order = omega arith

-- the minimum is too small by the ticks from the echoed reading to its receipt
pub minimum_is : (echo receipt then at own peer : ℕ) → echo ≡ (then + own) % 2 ^ 32 → receipt ≡ (at + peer) % 2 ^ 32
    → then ≤ at → (diff 32 echo receipt + peer + (at - then)) % 2 ^ 32 ≡ own % 2 ^ 32
minimum_is echo receipt then at own peer e r order =
    low_off (diff 32 echo receipt) at peer then own (difference echo receipt (then + own) (at + peer) e r) order

add : (a b k : ℕ) → Same a b → Same (a + k) (k + b)
add a b k same = omega arith

high_off : (low late high sent peer time : ℕ) → Same (low + peer + late + time) (sent + peer + high) → sent ≤ time
    → Same (low + ((time - sent) + late)) high
high_off low late high sent peer time same order = omega arith

-- the age is the true one, and what the minimum is too small by
pub age_is : (at stamp minimum sent own peer late time : ℕ) → at ≡ (time + own) % 2 ^ 32 → stamp ≡ (sent + peer) % 2 ^ 32
    → (minimum + peer + late) % 2 ^ 32 ≡ own % 2 ^ 32 → sent ≤ time → time < sent + 2 ^ 31 → late < 2 ^ 31
    → diff 32 (diff 32 at stamp) minimum ≡ (time - sent) + late
age_is at stamp minimum sent own peer late time a s m order soon little =
    diff_is 32 ((time - sent) + late) (diff 32 at stamp) minimum (omega arith)
    (high_off minimum late (diff 32 at stamp) sent peer time
    (add (minimum + peer + late) own time m ∙ sym (difference at stamp (time + own) (sent + peer) a s)) order)
