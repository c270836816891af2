-- A start that is overdue, and ticks that make an Idle initiator ask.
use Rattle.std.specs.Prelude.{ℕ, ◌≤◌, true, false, List, [], ◌∷◌, ◌≡◌}
use Rattle.judge.specs.Clock.{since_of}
use Rattle.rules.specs.Living.{may_ask}
use Rattle.rules.specs.State.{phase_of}
use Rattle.rules.specs.declared.act.Event.{Event}
use Rattle.rules.specs.declared.act.Event.TheVariants.{Tick, Message}
use Rattle.rules.specs.declared.state.Role.TheVariants.{Initiator}
use Rattle.rules.specs.declared.state.Life.TheVariants.{Idle, Calling}
use Rattle.rules.specs.declared.state.Phase.TheVariants.{Starting as starting}
use Rattle.rules.specs.declared.state.End.{End}
use Rattle.rules.specs.Claims.{answer_of}
use Rattle.rules.specs.Step.{stepped}
use Rattle.run.specs.Run.{after}
use Rattle.history.specs.Delivery.{IsTaken}
use Rattle.run.specs.Events.{is_indication}
use Rattle.witness.specs.Ends.{initiator, reading, roomy, tick, confirm, disconnect, bare}

-- ---- an overdue start: `OverdueStartEnds`

-- it waits for kind 2 since 103; T is 500
abbrev pub opening : End
opening = (after initiator (confirm 103 ∷ tick 100 ∷ [])).end

abbrev pub IsOverdue : Event → List ℕ → Type 0
IsOverdue event given =
    (phase_of opening.life ≡ starting) × (is_indication event ≡ false) × IsTaken opening (reading 603) roomy
    × (opening.settings.wait ≤ since_of (reading 603) opening.line.began)
    × (let r = stepped opening event (reading 603) given roomy initiator.queue in
    (answer_of r ≡ 12) × (r.outcome.end.life ≡ Idle) × (r.outcome.flags.release ≡ true))

abbrev pub OverdueAtTick : Type 0
OverdueAtTick = IsOverdue Tick []

-- the very message that it waits for comes too late
abbrev pub OverdueAtMessage : Type 0
OverdueAtMessage = IsOverdue Message (bare 2 0 50 103 50)

-- ---- asking: `IdleTickAsks`

abbrev pub MakesAsk : End → ℕ → Type 0
MakesAsk e n =
    (e.life ≡ Idle) × (e.role ≡ Initiator) × IsTaken e (reading n) roomy
    × (may_ask e (reading n) ≡ true)
    × (let r = stepped e Tick (reading n) [] roomy initiator.queue in
    (answer_of r ≡ 0) × (r.outcome.end.life ≡ Calling) × (r.outcome.flags.ask ≡ true))

-- a fresh initiator may ask at once
abbrev pub AsksAtOnce : Type 0
AsksAtOnce = MakesAsk (after initiator []).end 100

-- one that asked at 100 and lost the connection before it was Up may not, but asks again C ticks later
abbrev pub refused : End
refused = (after initiator (disconnect 104 ∷ confirm 103 ∷ tick 100 ∷ [])).end

abbrev pub AsksAgain : Type 0
AsksAgain = (refused.asking.at_once ≡ false) × MakesAsk refused 1_100
