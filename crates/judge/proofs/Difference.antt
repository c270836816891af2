-- The laws of the one difference, over its width, and what wrapping subtraction has to do with it.
use Rattle.std.proofs.Common.{◌≡◌, ℕ, ◌+◌, ◌-◌, ◌*◌, ◌/◌, ◌%◌, ◌^◌, ◌<◌, sym, ap, ◌∙◌, mod-lt, mod-eq_of_lt, add_comm, div-add-mod', arith, pow_pos}
use native.Mathlib.Nat.{mod-mod, mod-add-mod, add-mod-mod, add-mod_right, add-mul-mod_self_right}
use Rattle.judge.specs.Difference.{diff}
use Rattle.judge.specs.Claims.{DifferenceIs, DifferenceFits, DifferenceAdds, DifferenceShifts}

pub diff_fits : DifferenceFits
unfolding diff
diff_fits w a b = mod-lt (a % 2 ^ w + (2 ^ w - b % 2 ^ w)) (pow_pos w)

-- b and what b lacks to the next multiple of P vanish beside n
cancels : (P n b : ℕ) → 0 < P → ((b + n) + (P - b % P)) % P ≡ n % P
cancels P n b pos =
    let whole = div-add-mod' b P in
    let less = mod-lt b pos in
    let e : (b + n) + (P - b % P) ≡ n + b / P * P + P = omega arith in
    ap (λ (k : ℕ). k % P) e ∙ add-mod_right (n + b / P * P) P ∙ add-mul-mod_self_right n (b / P) P

pub diff_is : DifferenceIs
unfolding diff
diff_is w n a b small same =
    let P = 2 ^ w in
    ap (λ (k : ℕ). (k + (P - b % P)) % P) (sym same)
    ∙ mod-add-mod (b + n) P (P - b % P)
    ∙ cancels P n b (pow_pos w)
    ∙ mod-eq_of_lt small

pub diff_adds : DifferenceAdds
unfolding diff
diff_adds w a b =
    let P = 2 ^ w in
    let e : b + (a % P + (P - b % P)) ≡ (b + a % P) + (P - b % P) = omega arith in
    add-mod-mod b (a % P + (P - b % P)) P
    ∙ ap (λ (k : ℕ). k % P) e
    ∙ cancels P (a % P) b (pow_pos w)
    ∙ mod-mod a P

pub diff_shifts : DifferenceShifts
diff_shifts w a b k =
    let P = 2 ^ w in
    let n = diff w a b in
    let e : (b + k) + n ≡ (b + n) + k = omega arith in
    diff_is w n (a + k) (b + k) (diff_fits w a b)
    (ap (λ (x : ℕ). x % P) e ∙ sym (mod-add-mod (b + n) P k) ∙ ap (λ (x : ℕ). (x + k) % P) (diff_adds w a b) ∙ mod-add-mod a P k)

-- what wrapping subtraction ensures of its result
pub wraps : (w r a b : ℕ) → r < 2 ^ w → (r + b) % 2 ^ w ≡ a → r ≡ diff w a b
wraps w r a b small e =
    sym (diff_is w r a b small
    (ap (λ (k : ℕ). k % 2 ^ w) (add_comm b r) ∙ sym (mod-mod (r + b) (2 ^ w)) ∙ ap (λ (k : ℕ). k % 2 ^ w) e))

-- the same where the result is said as it is computed, for numbers of w bits
less_wraps : (w a b : ℕ) → a < 2 ^ w → b < 2 ^ w → (a + (2 ^ w - b)) % 2 ^ w ≡ diff w a b
less_wraps w a b small less =
    let P = 2 ^ w in
    let n = a + (P - b) in
    let e : n + b ≡ a + P = omega arith in
    wraps w (n % P) a b (mod-lt n (pow_pos w))
    (mod-add-mod n P b ∙ ap (λ (k : ℕ). k % P) e ∙ add-mod_right a P ∙ mod-eq_of_lt small)

-- of readings and offsets
pub readings_wrap : (a b : ℕ) → a < 2 ^ 32 → b < 2 ^ 32 → (a + (2 ^ 32 - b)) % 2 ^ 32 ≡ diff 32 a b
readings_wrap = less_wraps 32

-- of an offset turned round
pub offset_wraps : (r b : ℕ) → r < 2 ^ 32 → (r + b) % 2 ^ 32 ≡ 0 → diff 32 0 b ≡ r
offset_wraps r b small e = sym (wraps 32 r 0 b small e)

-- of sequence numbers
pub numbers_wrap : (a b : ℕ) → a < 2 ^ 16 → b < 2 ^ 16 → (a + (2 ^ 16 - b)) % 2 ^ 16 ≡ diff 16 a b
numbers_wrap = less_wraps 16
