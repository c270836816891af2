-- The example of the Sunday script: seven records, and the lines that answer them. Proof: proofs/Example.antt.
use Rattle.std.specs.Prelude.{ℕ, List, [], ◌∷◌, ◌++◌, ◌≡◌, replicate}
use Rattle.wire.specs.Bytes.{bytes_of}
use Rattle.script.specs.Words.{hex_of, ask_word, release_word, send_word, text_line}
use Rattle.script.specs.Script.{printed}

-- an initiator at 100 with A 50, W 20, N 4, E 2, R 300, S 100, T 500, C 1000
abbrev pub make_record : List ℕ
make_record =
    1 ∷ 0 ∷ bytes_of 4 100 ++ bytes_of 4 50 ++ bytes_of 4 20 ++ bytes_of 2 4 ++ bytes_of 1 2 ++ bytes_of 4 300 ++ bytes_of 4 100
    ++ bytes_of 4 500
    ++ bytes_of 4 1_000

abbrev pub tick_record : ℕ → List ℕ
tick_record at = 2 ∷ bytes_of 4 at

abbrev pub confirm_record : ℕ → List ℕ
confirm_record at = 4 ∷ bytes_of 4 at

abbrev pub example : List ℕ
example = make_record ++ tick_record 100 ++ confirm_record 103 ++ tick_record 50 ++ tick_record 603 ++ tick_record 604 ++ tick_record 1_100

-- kind 1, number 0, sent at 103, with both stamps 0
abbrev pub first_message : List ℕ
first_message = 1 ∷ 0 ∷ 0 ∷ 0 ∷ 0 ∷ 0 ∷ 103 ∷ replicate 8 0

abbrev pub example_lines : List ℕ
example_lines =
    text_line 0 [] ++ text_line 0 ask_word ++ text_line 0 (send_word ++ hex_of first_message) ++ text_line 2 [] ++ text_line 12 release_word ++ text_line 0 []
    ++ text_line 0 ask_word

abbrev pub ExamplePrints : Type 0
ExamplePrints = printed example ≡ example_lines
