-- Runs that show why the bounds on silence and on waiting are what they are; they meet what `SilenceEnds`, `StartEnds` and
-- `InitiatorAsks` ask.
use Rattle.std.specs.Prelude.{ℕ, ◌+◌, ◌-◌, ◌*◌, ◌%◌, ◌^◌, ◌≤◌, ◌<◌, List, [], ◌∷◌, ◌⊎◌, ◌≡◌}
use Rattle.rules.specs.State.{phase_of}
use Rattle.rules.specs.declared.act.Event.{Event}
use Rattle.rules.specs.declared.act.Event.TheVariants.{Tick, Connect, Confirm, Disconnect, Message}
use Rattle.rules.specs.declared.state.Role.TheVariants.{Initiator}
use Rattle.rules.specs.declared.state.Life.TheVariants.{Idle, Up}
use Rattle.rules.specs.declared.state.Phase.TheVariants.{Starting as starting}
use Rattle.rules.specs.Claims.{answer_of}
use Rattle.run.specs.Run.{Sound, Entry, after, history}
use Rattle.history.specs.Timed.{Moment, calls_of, latest, RunsTrue, time_of, AtLeastEvery, ticks, looks}
use Rattle.history.specs.Waiting.{waits, asks_in, rests}
use Rattle.history.specs.Silence.{hears}
use Rattle.witness.specs.Ends.{settings, initiator, call, bare, estimate, life_sign}

-- ---- an initiator, made at the time 100

-- an event at a time, with some bytes
abbrev pub moment : ℕ → Event → List ℕ → Moment
moment t event given = record { time = t; call = call event (t % 2 ^ 32) given }

-- it asks, is confirmed, and comes Up at 115
abbrev pub calling : List Moment
calling = moment 103 Confirm [] ∷ moment 100 Tick [] ∷ []

abbrev pub comes_up : List Moment
comes_up =
    moment 115 Message (estimate 1 60 109 60 (2 ^ 32 - 59) (2 ^ 32 - 49)) ∷ moment 109 Message (bare 2 0 50 103 50) ∷ calling

-- the answers, the newest first
abbrev pub answers_in : List Entry → List ℕ
answers_in [] = []
answers_in (x ∷ xs) = answer_of x.result ∷ answers_in xs

abbrev pub answers : List Moment → List ℕ
answers xs = answers_in (history initiator (calls_of xs))

-- ---- silence

-- connect indications, which an initiator answers with 3 before it looks at any limit, and a tick at the end
abbrev pub unheard : List Moment
unheard =
    moment (115 + 2 ^ 32 + 1) Tick [] ∷ moment (115 + 2 ^ 32) Connect [] ∷ moment (115 + 2 ^ 32 - 2) Connect []
    ∷ moment (115 + 2 ^ 31 - 1) Connect [] ∷ comes_up

-- with indications alone an end hears nothing for more than 2 ^ 32 ticks and stays Up, though every event is taken
abbrev pub StaysUpUnheard : Type 0
StaysUpUnheard =
    Sound initiator × RunsTrue initiator 100 unheard × (answers unheard ≡ 0 ∷ 3 ∷ 3 ∷ 3 ∷ 0 ∷ 0 ∷ 0 ∷ 0 ∷ [])
    × ((after initiator (calls_of unheard)).end.life ≡ Up)
    × (time_of hears initiator 100 unheard + 2 ^ 32 < latest 100 unheard)

-- ticks 2 ^ 31 apart: the first is answered 2, and to the second no time has passed
abbrev pub half_range : List Moment
half_range = moment (115 + 2 ^ 32) Tick [] ∷ moment (115 + 2 ^ 31) Tick [] ∷ comes_up

-- so "less than 2 ^ 31" cannot be "at most 2 ^ 31"
abbrev pub HalfRangeIsTooLong : Type 0
HalfRangeIsTooLong =
    Sound initiator × RunsTrue initiator 100 half_range × AtLeastEvery (2 ^ 31) looks initiator 100 half_range
    × (answers half_range ≡ 0 ∷ 2 ∷ 0 ∷ 0 ∷ 0 ∷ 0 ∷ [])
    × ((after initiator (calls_of half_range)).end.life ≡ Up) × (time_of hears initiator 100 half_range + 2 ^ 32 ≡ latest 100 half_range)

-- a tick 299 ticks after coming Up, and 1,000 ticks later an indication
abbrev pub longest_silence : List Moment
longest_silence = moment 1_414 Connect [] ∷ moment 414 Tick [] ∷ comes_up

-- so an end may be Up when R + g - 1 ticks have passed
abbrev pub SilenceBoundIsReached : Type 0
SilenceBoundIsReached =
    Sound initiator × RunsTrue initiator 100 longest_silence × AtLeastEvery 1_000 looks initiator 100 longest_silence × (1_000 < 2 ^ 31)
    × ((after initiator (calls_of longest_silence)).end.life ≡ Up)
    × (latest 100 longest_silence + 1 ≡ time_of hears initiator 100 longest_silence + settings.silence + 1_000)
    × (latest 100 longest_silence < time_of hears initiator 100 longest_silence + settings.silence + 1_000)

-- ---- waiting

-- a tick 499 ticks after the confirm, and 1,000 ticks later an indication
abbrev pub longest_start : List Moment
longest_start = moment 1_602 Connect [] ∷ moment 602 Tick [] ∷ calling

-- so an end may be in a starting state when T + g - 1 ticks have passed
abbrev pub StartBoundIsReached : Type 0
StartBoundIsReached =
    Sound initiator × RunsTrue initiator 100 longest_start × AtLeastEvery 1_000 looks initiator 100 longest_start × (1_000 < 2 ^ 31)
    × (phase_of (after initiator (calls_of longest_start)).end.life ≡ starting)
    × (latest 100 longest_start + 1 ≡ time_of waits initiator 100 longest_start + settings.wait + 1_000)
    × (latest 100 longest_start < time_of waits initiator 100 longest_start + settings.wait + 1_000)

-- the peer is gone at 104; a tick 999 ticks after the asking, and 1,000 ticks later an indication
abbrev pub longest_rest : List Moment
longest_rest = moment 2_099 Connect [] ∷ moment 1_099 Tick [] ∷ moment 104 Disconnect [] ∷ calling

-- one of the two holds of an Idle initiator: it has seen no tick since it rests, or not yet C ticks since it asked
abbrev pub Rests : ℕ → List Moment → Type 0
Rests g xs =
    ((time_of ticks initiator 100 xs ≤ time_of rests initiator 100 xs) × (latest 100 xs ≤ time_of rests initiator 100 xs + g))
    ⊎ ((time_of ticks initiator 100 xs < time_of asks_in initiator 100 xs + settings.retry)
    × (latest 100 xs < time_of asks_in initiator 100 xs + settings.retry + g))

-- all that is asked of such a run
abbrev pub RestsInTime : ℕ → List Moment → Type 0
RestsInTime g xs =
    Sound initiator × RunsTrue initiator 100 xs × AtLeastEvery g ticks initiator 100 xs × (g + settings.wait ≤ 2 ^ 31)
    × (initiator.role ≡ Initiator)
    × ((after initiator (calls_of xs)).end.life ≡ Idle)

-- so an initiator may be Idle when C + g - 1 ticks have passed since it asked, and long since it came to rest
abbrev pub RetryBoundIsReached : Type 0
RetryBoundIsReached =
    RestsInTime 1_000 longest_rest × (time_of rests initiator 100 longest_rest < time_of ticks initiator 100 longest_rest)
    × (latest 100 longest_rest + 1 ≡ time_of asks_in initiator 100 longest_rest + settings.retry + 1_000)
    × Rests 1_000 longest_rest

-- it is Up until 1,300, and then a tick comes, the peer is gone, and for 1,000 ticks there is no other tick
abbrev pub unticked : List Moment
unticked =
    moment 2_300 Connect [] ∷ moment 1_300 Disconnect [] ∷ moment 1_300 Tick [] ∷ moment 1_270 Message (life_sign 5 1_210 115 66)
    ∷ moment 980 Message (life_sign 4 920 115 66) ∷ moment 700 Tick [] ∷ moment 690 Message (life_sign 3 630 115 66)
    ∷ moment 400 Message (life_sign 2 340 115 66) ∷ comes_up

-- so it may be Idle when g ticks have passed since it came to rest, and more than C + g since it asked
abbrev pub RestBoundIsReached : Type 0
RestBoundIsReached =
    RestsInTime 1_000 unticked × (latest 100 unticked ≡ time_of rests initiator 100 unticked + 1_000)
    × (time_of asks_in initiator 100 unticked + settings.retry + 1_000 < latest 100 unticked)
    × Rests 1_000 unticked

-- the ticks that are one tick too far apart for an initiator: 2 ^ 31 + 1 - T
abbrev pub far_apart : ℕ
far_apart = 2 ^ 31 - 499

-- a confirm and a tick at their latest, and then ticks so far apart: the first ends the start, and the second comes 2 ^ 32 ticks after the asking
abbrev pub wrapped_rest : List Moment
wrapped_rest =
    moment (1_098 + 2 * far_apart) Tick [] ∷ moment (1_098 + far_apart) Tick [] ∷ moment 1_098 Tick [] ∷ moment 599 Confirm []
    ∷ moment 100 Tick [] ∷ []

-- so the initiator takes it for just asked, and "at most 2 ^ 31 - T" cannot be more
abbrev pub FarTicksAreTooFar : Type 0
FarTicksAreTooFar =
    Sound initiator × RunsTrue initiator 100 wrapped_rest × AtLeastEvery far_apart ticks initiator 100 wrapped_rest
    × (far_apart + settings.wait ≡ 2 ^ 31 + 1) × ((after initiator (calls_of wrapped_rest)).end.life ≡ Idle)
    × (time_of rests initiator 100 wrapped_rest < time_of ticks initiator 100 wrapped_rest)
    × (time_of asks_in initiator 100 wrapped_rest + 2 ^ 32 ≡ time_of ticks initiator 100 wrapped_rest)
