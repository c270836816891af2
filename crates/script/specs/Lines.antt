-- The line that answers a record.
use Rattle.std.specs.Prelude.{ℕ, ◌+◌, ◌*◌, List, [], ◌∷◌, ◌++◌}
use Rattle.rules.specs.Answers.{number_of}
use Rattle.rules.specs.Decide.{least_room}
use Rattle.rules.specs.Outputs.{Output}
use Rattle.rules.specs.Outputs.Output.{ask, accept, send, datum, up, error, release, down}
use Rattle.rules.specs.declared.answer.Answer.{Answer}
use Rattle.script.specs.Words.{hex_of, ask_word, accept_word, up_word, error_word, release_word, down_word, send_word, data_word, text_line}

-- bytes after their word, in hex
abbrev pub word_of : Output → List ℕ
word_of ask = ask_word
word_of accept = accept_word
word_of (send bytes) = send_word ++ hex_of bytes
word_of (datum bytes) = data_word ++ hex_of bytes
word_of up = up_word
word_of error = error_word
word_of release = release_word
word_of down = down_word

abbrev pub words_of : List Output → List ℕ
words_of [] = []
words_of (o ∷ os) = word_of o ++ words_of os

-- the number, then the outputs in order
unfoldable pub answer_line : Answer → List Output → List ℕ
answer_line answer outputs = text_line (number_of answer) (words_of outputs)

-- no line is longer
abbrev pub line_room : ℕ
line_room = 2 * least_room + 64
