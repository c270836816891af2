-- What is printed of a message.
use Rattle.std.specs.Prelude.{ℕ, ◌/◌, ◌%◌, false, List, [], ◌∷◌, ◌++◌}
use Rattle.std.specs.List.{flat_map}
use Rattle.std.specs.Fmt.{decimal, digit_glyph}

-- a number behind a space
abbrev pub next_of : ℕ → List ℕ
next_of n = 32 ∷ decimal n

-- numbers with a space between them
abbrev pub spaced : List ℕ → List ℕ
spaced [] = []
spaced (n ∷ ns) = decimal n ++ flat_map next_of ns

-- a byte in two hexadecimal digits
abbrev pub byte_of : ℕ → List ℕ
byte_of b = digit_glyph false (b / 16) ∷ digit_glyph false (b % 16) ∷ []
