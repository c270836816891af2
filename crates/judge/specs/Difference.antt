-- The one difference of numbers that wrap, over their width w in bits.
use Rattle.std.specs.Prelude.{ℕ, ◌+◌, ◌-◌, ◌%◌, ◌^◌}

-- a less b, modulo 2 ^ w
unfoldable pub diff : ℕ → ℕ → ℕ → ℕ
diff w a b = (a % 2 ^ w + (2 ^ w - b % 2 ^ w)) % 2 ^ w
