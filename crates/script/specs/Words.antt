-- The words and digits of a line, as bytes of ASCII.
use Rattle.std.specs.Prelude.{ℕ, ◌+◌, ◌/◌, ◌%◌, cond, List, [], ◌∷◌, ◌++◌, ltb}

-- a digit below 16, in lower case
abbrev pub digit_of : ℕ → ℕ
digit_of n = cond (ltb n 10) (48 + n) (87 + n)

abbrev pub hex_of : List ℕ → List ℕ
hex_of [] = []
hex_of (b ∷ bs) = digit_of (b / 16) ∷ digit_of (b % 16) ∷ hex_of bs

-- a number below 100
abbrev pub decimal_of : ℕ → List ℕ
decimal_of n = cond (ltb n 10) ((48 + n) ∷ []) ((48 + n / 10) ∷ (48 + n % 10) ∷ [])

-- " ask", " accept", " up", " error", " release", " down", " send ", " data "
abbrev pub ask_word : List ℕ
ask_word = 32 ∷ 97 ∷ 115 ∷ 107 ∷ []

abbrev pub accept_word : List ℕ
accept_word = 32 ∷ 97 ∷ 99 ∷ 99 ∷ 101 ∷ 112 ∷ 116 ∷ []

abbrev pub up_word : List ℕ
up_word = 32 ∷ 117 ∷ 112 ∷ []

abbrev pub error_word : List ℕ
error_word = 32 ∷ 101 ∷ 114 ∷ 114 ∷ 111 ∷ 114 ∷ []

abbrev pub release_word : List ℕ
release_word = 32 ∷ 114 ∷ 101 ∷ 108 ∷ 101 ∷ 97 ∷ 115 ∷ 101 ∷ []

abbrev pub down_word : List ℕ
down_word = 32 ∷ 100 ∷ 111 ∷ 119 ∷ 110 ∷ []

abbrev pub send_word : List ℕ
send_word = 32 ∷ 115 ∷ 101 ∷ 110 ∷ 100 ∷ 32 ∷ []

abbrev pub data_word : List ℕ
data_word = 32 ∷ 100 ∷ 97 ∷ 116 ∷ 97 ∷ 32 ∷ []

abbrev pub line_end : List ℕ
line_end = 10 ∷ []

-- "bad record" and a line end
abbrev pub bad_line : List ℕ
bad_line = 98 ∷ 97 ∷ 100 ∷ 32 ∷ 114 ∷ 101 ∷ 99 ∷ 111 ∷ 114 ∷ 100 ∷ 10 ∷ []

-- a number, words, and a line end
abbrev pub text_line : ℕ → List ℕ → List ℕ
text_line number words = decimal_of number ++ words ++ line_end
