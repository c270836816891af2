-- No end is stuck: every starting state is left, and an Idle initiator asks again.
use Rattle.std.specs.Prelude.{ℕ, ◌+◌, ◌^◌, ◌≤◌, ◌<◌, Bool, true, false, cond, ◌&&◌, ◌||◌, List, ◌⊎◌, ◌≡◌, eqb}
use Rattle.judge.specs.Clock.{since_of}
use Rattle.judge.specs.declared.clock.Reading.{Reading}
use Rattle.rules.specs.Claims.{answer_of}
use Rattle.rules.specs.Living.{may_ask}
use Rattle.rules.specs.State.{phase_of}
use Rattle.rules.specs.Step.{stepped}
use Rattle.rules.specs.declared.act.Event.{Event}
use Rattle.rules.specs.declared.act.Event.TheVariants.{Tick}
use Rattle.rules.specs.declared.state.Role.TheVariants.{Initiator}
use Rattle.rules.specs.declared.state.Life.{Life}
use Rattle.rules.specs.declared.state.Life.TheVariants.{Idle, Calling}
use Rattle.rules.specs.declared.state.Phase.{Phase}
use Rattle.rules.specs.declared.state.Phase.TheVariants.{Idle as resting, Starting as starting, Up as upright}
use Rattle.rules.specs.declared.state.End.{End}
use Rattle.run.specs.Run.{Making, Sound, Entry, after}
use Rattle.run.specs.Events.{is_confirm, is_indication, asks, opens}
use Rattle.history.specs.Delivery.{IsTaken}
use Rattle.history.specs.Timed.{Moment, calls_of, latest, RunsTrue, time_of, AtLeastEvery, ticks, looks}

-- ---- one event, at any end

-- T ticks after the wait began, any event but a connect or disconnect indication ends a starting state: 12, and a release
abbrev pub OverdueStartEnds : Type 0
OverdueStartEnds =
    (e : End) (event : Event) (at : Reading) (given out q : List ℕ) → phase_of e.life ≡ starting → is_indication event ≡ false
    → IsTaken e at out → e.settings.wait ≤ since_of at e.line.began
    → let r = stepped e event at given out q in
    (answer_of r ≡ 12) × (r.outcome.end.life ≡ Idle) × (r.outcome.flags.release ≡ true)

-- a tick makes an Idle initiator ask that may: at once, or C ticks after it last asked
abbrev pub IdleTickAsks : Type 0
IdleTickAsks =
    (e : End) (at : Reading) (given out q : List ℕ) → e.life ≡ Idle → e.role ≡ Initiator → IsTaken e at out → may_ask e at ≡ true
    → let r = stepped e Tick at given out q in
    (answer_of r ≡ 0) × (r.outcome.end.life ≡ Calling) × (r.outcome.flags.ask ≡ true)

-- ---- in true time

-- the wait begins: at an ask, at an accept, and at a confirm that is answered 0
abbrev pub waits : Entry → Bool
waits x = opens x.result || (is_confirm x.call.event && eqb (answer_of x.result) 0)

abbrev pub asks_in : Entry → Bool
asks_in x = asks x.result

abbrev pub is_idle_in : Phase → Bool
is_idle_in resting = true
is_idle_in starting = false
is_idle_in upright = false

abbrev pub is_idle : Life → Bool
is_idle l = is_idle_in (phase_of l)

-- the end comes to be Idle
abbrev pub rests : Entry → Bool
rests x = cond (is_idle x.before.end.life) false (is_idle x.result.outcome.end.life)

-- often enough is: less than 2 ^ 31 ticks from one event to the next, connect indications to an initiator not counted.
-- Then none of these events leaves a state starting T ticks after its wait began, and no state starts for T + g ticks
abbrev pub StartEnds : Type 0
StartEnds =
    (m : Making) → Sound m → (start g : ℕ) (xs : List Moment) → RunsTrue m start xs → AtLeastEvery g looks m start xs → g < 2 ^ 31
    → phase_of (after m (calls_of xs)).end.life ≡ starting
    → (time_of looks m start xs < time_of waits m start xs + m.settings.wait)
    × (latest start xs < time_of waits m start xs + m.settings.wait + g)

-- often enough is: at most 2 ^ 31 - T ticks between any two ticks.
-- Then an Idle initiator asks at the first tick, or at the first that comes C ticks after it last asked:
-- within g ticks of coming to be Idle, or within C + g ticks of asking
abbrev pub InitiatorAsks : Type 0
InitiatorAsks =
    (m : Making) → Sound m → (start g : ℕ) (xs : List Moment) → RunsTrue m start xs → AtLeastEvery g ticks m start xs
    → g + m.settings.wait ≤ 2 ^ 31 → m.role ≡ Initiator → (after m (calls_of xs)).end.life ≡ Idle
    → ((time_of ticks m start xs ≤ time_of rests m start xs) × (latest start xs ≤ time_of rests m start xs + g))
    ⊎ ((time_of ticks m start xs < time_of asks_in m start xs + m.settings.retry)
    × (latest start xs < time_of asks_in m start xs + m.settings.retry + g))
