-- A run as a table: what happens, and what is answered and put out. The rows stand in the order of time.
use Rattle.std.specs.Prelude.{ℕ, List, [], ◌∷◌, ◌≡◌}
use Rattle.rules.specs.Claims.{answer_of}
use Rattle.rules.specs.Outputs.{Output, outputs_of}
use Rattle.rules.specs.Step.{Result}
use Rattle.run.specs.Run.{Call, Making, Sound, Kept, Entry, entry_of, after, history}

-- one event: the call, the number that answers it, and the outputs in their order
pub record Row : Type 0 where
  pub call : Call
  pub answer : ℕ
  pub outputs : List Output

abbrev pub row : Call → ℕ → List Output → Row
row call answer outputs = record { call = call; answer = answer; outputs = outputs }

-- the calls of a table, the newest first
abbrev pub calls_after : List Call → List Row → List Call
calls_after before [] = before
calls_after before (x ∷ xs) = calls_after (x.call ∷ before) xs

abbrev pub calls_in : List Row → List Call
calls_in xs = calls_after [] xs

-- the history of a table's calls, what they leave, and one more event after them
abbrev pub ran : Making → List Row → List Entry
ran m xs = history m (calls_in xs)

abbrev pub left : Making → List Row → Kept
left m xs = after m (calls_in xs)

abbrev pub next : Making → List Row → Call → Entry
next m xs c = entry_of m (calls_in xs) c

-- ---- what an event comes to

abbrev pub outputs_in : Result → List Output
outputs_in r = outputs_of r.outcome.flags r.outcome.front r.out

-- the row that an event of a history makes, and all rows of one
abbrev pub row_of : Entry → Row
row_of x = row x.call (answer_of x.result) (outputs_in x.result)

abbrev pub rows_before : List Entry → List Row → List Row
rows_before [] later = later
rows_before (x ∷ xs) later = rows_before xs (row_of x ∷ later)

-- `make` takes the settings, and the run with the calls of the table has the rows of the table
abbrev pub Happens : Making → List Row → Type 0
Happens m xs = Sound m × (rows_before (ran m xs) [] ≡ xs)
