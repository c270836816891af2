-- A line of hexadecimal digits, read character by character into bytes.
use Rattle.std.specs.Prelude.{ℕ, ◌+◌, ◌-◌, ◌*◌, ◌%◌, Bool, true, false, Option, None, Some, List, [], ◌∷◌, ◌++◌, length, if◌then◌else◌, ◌==◌, ◌&&◌, nat_lt, nat_le}
use Rattle.inspect.specs.declared.hex.TheConstants.{ROOM}

-- how much of a line has been read: its whole bytes, the first digit of the next, whether something
-- else than digits and spaces was met or too many digits, and whether a note has begun
pub record Progress : Type 0 where
  pub bytes : List ℕ
  pub high : Option ℕ
  pub bad : Bool
  pub note : Bool

-- nothing has been read
abbrev pub blank : Progress
blank = record { bytes = []; high = None; bad = false; note = false }

-- the value of a digit
abbrev pub nibble_of : ℕ → Option ℕ
nibble_of c =
    if nat_le 48 c && nat_le c 57 then Some (c - 48) else if nat_le 97 c && nat_le c 102 then Some (c - 87) else None

abbrev pub spoiled : Progress → Progress
spoiled l = record l { bad = true }

-- the line after the digit d, where its byte has a first digit or none
abbrev pub after : Progress → Option ℕ → ℕ → Progress
after l None d = record l { high = Some d }
after l (Some h) d =
    if nat_lt (length l.bytes) ROOM then record l { bytes = l.bytes ++ (h % 16 * 16 + d) ∷ []; high = None } else spoiled l

-- the line after a digit, or after what is none
abbrev pub with_digit : Progress → Option ℕ → Progress
with_digit l None = spoiled l
with_digit l (Some d) = after l l.high d

-- after one character: a note lasts to the end of the line, a space says nothing
abbrev pub fed : Progress → ℕ → Progress
fed l c =
    if l.note then l else if c == 35 then record l { note = true } else if c == 32 then l else with_digit l (nibble_of c)
