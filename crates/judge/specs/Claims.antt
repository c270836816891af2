-- What is claimed of the one difference, over its width. Proofs: proofs/Difference.antt.
use Rattle.std.specs.Prelude.{◌≡◌, ℕ, ◌+◌, ◌%◌, ◌^◌, ◌<◌}
use Rattle.judge.specs.Difference.{diff}

-- the difference is the one number below 2 ^ w that, added to b, agrees with a modulo 2 ^ w
abbrev pub DifferenceIs : Type 0
DifferenceIs = (w n a b : ℕ) → n < 2 ^ w → (b + n) % 2 ^ w ≡ a % 2 ^ w → diff w a b ≡ n

abbrev pub DifferenceFits : Type 0
DifferenceFits = (w a b : ℕ) → diff w a b < 2 ^ w

abbrev pub DifferenceAdds : Type 0
DifferenceAdds = (w a b : ℕ) → (b + diff w a b) % 2 ^ w ≡ a % 2 ^ w

-- adding the same to both sides changes nothing, so nothing happens at a wrap
abbrev pub DifferenceShifts : Type 0
DifferenceShifts = (w a b k : ℕ) → diff w (a + k) (b + k) ≡ diff w a b
