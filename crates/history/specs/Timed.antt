-- A run in true time: ticks are counted without end, and the clock of the end shows the count modulo 2 ^ 32.
use Rattle.std.specs.Prelude.{ℕ, ◌+◌, ◌%◌, ◌^◌, ◌≤◌, Bool, false, cond, ◌&&◌, List, [], ◌∷◌, ◌≡◌, leb, length}
use Rattle.judge.specs.declared.clock.Reading.{Reading}
use Rattle.rules.specs.Decide.{least_room}
use Rattle.run.specs.Run.{Making, Call, Entry, entry_of}
use Rattle.run.specs.Events.{is_tick, is_passed_by}

-- a call and the time at which it comes
pub record Moment : Type 0 where
  pub time : ℕ
  pub call : Call

abbrev pub calls_of : List Moment → List Call
calls_of [] = []
calls_of (x ∷ xs) = x.call ∷ calls_of xs

-- a reading shows a time: they agree modulo 2 ^ 32
abbrev pub Shows : Reading → ℕ → Type 0
Shows r t = r.0 % 2 ^ 32 ≡ t % 2 ^ 32

-- the time of the newest moment; where there is none, of the making
abbrev pub latest : ℕ → List Moment → ℕ
latest start [] = start
latest start (x ∷ xs) = x.time

-- the clock runs true: time does not go back, and every reading shows it
abbrev pub RunsTrue : Making → ℕ → List Moment → Type 0
RunsTrue m start [] = Shows m.at start
RunsTrue m start (x ∷ xs) = RunsTrue m start xs × (latest start xs ≤ x.time) × Shows x.call.at x.time

-- the time of the newest moment of a sort; where there is none, of the making
unfoldable pub time_of : (Entry → Bool) → Making → ℕ → List Moment → ℕ
time_of sort m start [] = start
time_of sort m start (x ∷ xs) = cond (sort (entry_of m (calls_of xs) x.call)) x.time (time_of sort m start xs)

-- never more than g ticks without a moment of a sort
abbrev pub AtLeastEvery : ℕ → (Entry → Bool) → Making → ℕ → List Moment → Type 0
AtLeastEvery g sort m start [] = Unit {0}
AtLeastEvery g sort m start (x ∷ xs) = AtLeastEvery g sort m start xs × (x.time ≤ time_of sort m start xs + g)

-- ---- the moments at which no state outlives its limit

abbrev pub roomy : Entry → Bool
roomy x = leb least_room (length x.call.out)

-- a tick with room for output
abbrev pub ticks : Entry → Bool
ticks x = is_tick x.call.event && roomy x

-- any event but a connect indication to an initiator, with room for output
abbrev pub looks : Entry → Bool
looks x = cond (is_passed_by x.before.end.role x.call.event) false (roomy x)
