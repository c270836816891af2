-- Big-endian numbers in lists of bytes.
use Rattle.std.specs.Prelude.{ℕ, zero, suc, ◌+◌, ◌*◌, ◌/◌, ◌%◌, ◌^◌, ◌<◌, List, [], ◌∷◌, get_or}

-- the n bytes that write x, the highest first
abbrev pub bytes_of : ℕ → ℕ → List ℕ
bytes_of zero x = []
bytes_of (suc n) x = x / 256 ^ n % 256 ∷ bytes_of n x

-- the number that the n bytes of s from place i on write
abbrev pub number_at : ℕ → List ℕ → ℕ → ℕ
number_at zero s i = 0
number_at (suc n) s i = get_or s i 0 * 256 ^ n + number_at n s (i + 1)

-- every element is a byte
abbrev pub AreBytes : List ℕ → Type 0
AreBytes s = (k : ℕ) → get_or s k 0 < 256
