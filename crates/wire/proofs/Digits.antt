-- Numbers and their bytes, over the number n of bytes: what is written reads back, what is read writes back.
use Prim.Native.Nat.{ℕ, zero, suc, ◌+◌, ◌*◌, ◌/◌, ◌%◌, ◌^◌, ◌≤◌, ◌<◌, zero-le}
use native.Mathlib.Nat.{add-zero, mod-one, mod-eq_of_lt, mul_assoc, mul-add-div_right, mul-add-mod_self_right, pow-succ', pow-le-pow_right}
use native.Mathlib.Numerals.{add-one}
use native.Mathlib.Omega.{arith}
use mathlib.Core.Path.{◌≡◌, refl, ap, ap₂, sym, ◌∙◌}
use mathlib.Core.List.{List, [], ◌∷◌}
use lib.Arith.{mod-mul, digits_lt, digits_div}
use lib.Dec.{lit<}
use lib.ListN.{length, get_or, take, drop}
use lib.Seq.{get_or-take, get_or-drop, drop-drop, drop-cons, take-nil}
use Rattle.wire.specs.Bytes.{bytes_of, number_at, AreBytes}

base_pos : (n : ℕ) → 0 < 256 ^ n
base_pos n = pow-le-pow_right {n = 256} (lit< tt) {i = 0} {j = n} zero-le

-- ---- reading what was written

drop_one_take : (n : ℕ) (l : List ℕ) → drop 1 (take (suc n) l) ≡ take n (drop 1 l)
drop_one_take n [] = sym (take-nil n)
drop_one_take n (a ∷ l) = refl

head_at : (n : ℕ) (s : List ℕ) (i b : ℕ) (bs : List ℕ) → take (suc n) (drop i s) ≡ b ∷ bs → get_or s i 0 ≡ b
head_at n s i b bs e =
    ap (λ (k : ℕ). get_or s k 0) (sym (add-zero i))
    ∙ sym (get_or-drop i s 0 0)
    ∙ sym (get_or-take (suc n) (drop i s) 0 0 (omega arith))
    ∙ ap (λ (l : List ℕ). get_or l 0 0) e

tail_at : (n : ℕ) (s : List ℕ) (i b : ℕ) (bs : List ℕ) → take (suc n) (drop i s) ≡ b ∷ bs → take n (drop (i + 1) s) ≡ bs
tail_at n s i b bs e =
    ap (take n) (sym (drop-drop 1 i s)) ∙ sym (drop_one_take n (drop i s)) ∙ ap (drop 1) e

-- bytes that write x make up x, as far as n bytes hold it
pub written_reads : (n x : ℕ) (s : List ℕ) (i : ℕ) → take n (drop i s) ≡ bytes_of n x → number_at n s i ≡ x % 256 ^ n
written_reads zero x s i e = sym (mod-one x)
written_reads (suc n) x s i e =
    ap₂ (λ (b k : ℕ). b * 256 ^ n + k) (head_at n s i _ _ e) (written_reads n x s (i + 1) (tail_at n s i _ _ e))
    ∙ sym (mod-mul x {m = 256} {c = 256 ^ n} (lit< tt) (base_pos n))
    ∙ ap (λ (k : ℕ). x % k) (sym (pow-succ' 256 n))

-- ---- writing what was read

pub number_lt : (n : ℕ) (s : List ℕ) (i : ℕ) → AreBytes s → number_at n s i < 256 ^ n
number_lt zero s i bytes = lit< tt
number_lt (suc n) s i bytes =
    rw pow-succ' (digits_lt (bytes i) (number_lt n s (i + 1) bytes))

-- what lies above n bytes is not among them
bytes_low : (n a y : ℕ) → bytes_of n (a * 256 ^ n + y) ≡ bytes_of n y
bytes_low zero a y = refl
bytes_low (suc n) a y =
    let e : a * 256 ^ suc n ≡ a * 256 * 256 ^ n =
    ap (λ (k : ℕ). a * k) (pow-succ' 256 n) ∙ sym (mul_assoc a 256 (256 ^ n)) in
    ap₂ ◌∷◌
    (ap (λ (k : ℕ). (k + y) / 256 ^ n % 256) e ∙ ap (λ (k : ℕ). k % 256) (mul-add-div_right (base_pos n) (a * 256) y)
    ∙ mul-add-mod_self_right a 256 (y / 256 ^ n))
    (ap (λ (k : ℕ). bytes_of n (k + y)) e ∙ bytes_low n (a * 256) y)

-- the bytes of a number that was read are those that it was read from
pub read_writes : (n : ℕ) (s : List ℕ) (i : ℕ) → AreBytes s → i + n ≤ length s → bytes_of n (number_at n s i) ≡ take n (drop i s)
read_writes zero s i bytes fits = refl
read_writes (suc n) s i bytes fits =
    let rest = number_at n s (i + 1) in
    let top : (get_or s i 0 * 256 ^ n + rest) / 256 ^ n % 256 ≡ get_or s i 0 =
    ap (λ (k : ℕ). k % 256) (digits_div (get_or s i 0) (number_lt n s (i + 1) bytes)) ∙ mod-eq_of_lt (bytes i) in
    ap₂ ◌∷◌ top (bytes_low n (get_or s i 0) rest ∙ read_writes n s (i + 1) bytes (omega arith))
    ∙ ap (λ (k : ℕ). get_or s i 0 ∷ take n (drop k s)) (add-one i)
    ∙ ap (take (suc n)) (sym (drop-cons s i 0 (omega arith)))
