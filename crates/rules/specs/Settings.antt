-- The numbers that the installer sets, and their ranges.
use Rattle.std.specs.Prelude.{ℕ, Bool, ◌&&◌, leb, ltb}
use Rattle.rules.specs.declared.settings.Settings.{Settings}

abbrev pub between_of : ℕ → ℕ → ℕ → Bool
between_of x low high = leb low x && leb x high

-- A, W, N and E
abbrev pub limits_in_range : Settings → Bool
limits_in_range s =
    between_of s.age 1 100_000 && between_of s.spread 0 100_000 && between_of s.jump 1 1_000 && between_of s.errors 1 2

-- R, S, T and C; a life sign comes before silence, and a retry not before the wait
abbrev pub times_in_range : Settings → Bool
times_in_range s =
    between_of s.silence 2 1_000_000 && (leb 1 s.life_sign && ltb s.life_sign s.silence)
    && between_of s.wait 1 1_000_000 && between_of s.retry s.wait 1_000_000

abbrev pub in_range_of : Settings → Bool
in_range_of s = limits_in_range s && times_in_range s
