-- Events at which the claims of one event say something: refusals, ends that hold nothing, and each move of the queue.
use Rattle.std.specs.Prelude.{ℕ, true, false, List, [], ◌∷◌, ◌++◌, ◌⊎◌, ◌≡◌, length, take, Err, Ok, Some}
use Rattle.queue.specs.Ring.{size, empty_ring, entries}
use Rattle.wire.specs.Message.{parse}
use Rattle.wire.specs.declared.message.Message.{Message}
use Rattle.rules.specs.State.{blank_line}
use Rattle.rules.specs.declared.act.Event.TheVariants.{Tick}
use Rattle.rules.specs.declared.answer.Answer.TheVariants.{Handled, OutOfRange}
use Rattle.rules.specs.declared.settings.Settings.{Settings}
use Rattle.rules.specs.declared.state.Role.TheVariants.{Initiator}
use Rattle.rules.specs.declared.state.Life.TheVariants.{Idle, Up}
use Rattle.rules.specs.declared.state.End.{End}
use Rattle.rules.specs.Answers.{leaves_of, Leaving}
use Rattle.rules.specs.Answers.Leaving.{everything, new_reading, down, error_report, delivered}
use Rattle.rules.specs.Leaves.{Left}
use Rattle.rules.specs.Claims.{StepPromise, MakePromise, answer_of, IdleHoldsNothing}
use Rattle.rules.specs.Make.{Made, fresh_end, made_of}
use Rattle.rules.specs.Ends.{asked_end}
use Rattle.rules.specs.Step.{Result}
use Rattle.rules.specs.declared.effect.Front.TheVariants.{Nothing as none, Message as message}
use Rattle.run.specs.Run.{Call, came_to}
use Rattle.witness.specs.Ends.{settings, initiator, reading, roomy, tick, cramped_tick, user, comes, bare, life_sign}
use Rattle.witness.specs.Table.{Row, left}
use Rattle.witness.specs.Initiator.{until_full, until_heard, gapped, until_late, again, until_down, until_asked, wrong_echo}
use Rattle.witness.specs.Answers.{unsettled}

-- ---- the promises are kept by results that are written out: `OneResult` and `OneEnd`

abbrev pub fresh : End
fresh = fresh_end Initiator (reading 100) settings

-- a fresh initiator asks
abbrev pub asked : Result
asked =
    record {
      outcome =
          record {
            end = asked_end fresh (reading 100);
            front = none;
            flags = record { ask = true; accept = false; up = false; error = false; release = false; down = false };
            answer = Handled;
          };
      out = roomy;
      queue = initiator.queue;
    }

-- and does nothing else
abbrev pub AskIsPromised : Type 0
AskIsPromised =
    StepPromise fresh Tick (reading 100) [] roomy initiator.queue asked
    × ((r : Result) → StepPromise fresh Tick (reading 100) [] roomy initiator.queue r → r ≡ asked)

-- an end is made, or refused
abbrev pub OnlyMakes : Settings → Made → Type 0
OnlyMakes settings m =
    MakePromise Initiator (reading 100) settings m × ((n : Made) → MakePromise Initiator (reading 100) settings n → n ≡ m)

abbrev pub EndsArePromised : Type 0
EndsArePromised = OnlyMakes settings (Ok fresh) × OnlyMakes unsettled (Err OutOfRange)

-- ---- what the answers leave, one for each entry of the table's last column: `LeavesAsTheTableSays`

-- after some events, one more is answered n, which leaves x, and so it does
abbrev pub Leaves : List Row → Call → ℕ → Leaving → Type 0
Leaves xs c n x =
    let k = left initiator xs in
    let r = came_to k c in
    (answer_of r ≡ n) × (leaves_of r.outcome.answer ≡ x) × Left x k.end c.at c.given c.out k.queue r

-- eight data wait, and the clock goes back, or there is too little room
abbrev pub AllStays : Type 0
AllStays = Leaves until_full (tick 127) 2 everything × Leaves until_full (cramped_tick 150) 14 everything

abbrev pub ReadingAlone : Type 0
ReadingAlone =
    Leaves until_down (comes 198 (life_sign 8 90 115 66)) 3 new_reading × Leaves until_full (user 130 []) 4 new_reading
    × Leaves until_full (user 130 (17 ∷ [])) 5 new_reading
    × Leaves until_full (comes 130 (1 ∷ 2 ∷ 3 ∷ [])) 6 new_reading
    × Leaves until_full (comes 130 (bare 1 2 70 0 0)) 7 new_reading

-- a wrong echo; the second failure of two; a gap
abbrev pub GoesDown : Type 0
GoesDown = Leaves until_asked wrong_echo 8 down × Leaves until_late again 9 error_report × Leaves until_heard gapped 13 delivered

-- ---- what is sent reads back: `SentReadsBack`

-- the oldest of eight data leaves
abbrev pub SentIsRead : Type 0
SentIsRead =
    let k = left initiator until_full in
    let r = came_to k (tick 129) in
    (length k.queue ≡ size) × (r.outcome.front ≡ message 17) × ((m : Message) × (parse (take 17 r.out) ≡ Some m))

-- ---- an Idle end holds nothing of a connection: `FreshHoldsNothing` and `StepHoldsNothing`

abbrev pub FreshIsBlank : Type 0
FreshIsBlank =
    (made_of Initiator (reading 100) settings ≡ Ok fresh) × (fresh.life ≡ Idle)
    × ((fresh.line ≡ blank_line) × (fresh.ring ≡ empty_ring))

-- an end that is Up, has failed once and has data waiting goes down
abbrev pub FallenIsBlank : Type 0
FallenIsBlank =
    let k = left initiator until_late in
    let e = (came_to k again).outcome.end in
    (k.end.life ≡ Up) × (k.end.line.failures ≡ 1) × (k.end.ring.count ≡ 7) × IdleHoldsNothing k.end × (e.life ≡ Idle)
    × ((e.line ≡ blank_line) × (e.ring ≡ empty_ring))

-- ---- the queue: `QueueMoves`

-- what waits before an event, and after it
abbrev pub Moves : List Row → Call → List (List ℕ) → List (List ℕ) → Type 0
Moves xs c old new =
    let k = left initiator xs in
    let r = came_to k c in
    let before = entries k.queue k.end.ring in
    let after = entries r.queue r.outcome.end.ring in
    (length k.queue ≡ size) × (before ≡ old) × (after ≡ new)
    × ((after ≡ before) ⊎ ((after ≡ before ++ (c.given ∷ [])) ⊎ (((d : List ℕ) × (before ≡ d ∷ after)) ⊎ (after ≡ []))))

abbrev pub seven_left : List (List ℕ)
seven_left = (10 ∷ []) ∷ (11 ∷ []) ∷ (12 ∷ []) ∷ (13 ∷ []) ∷ (14 ∷ []) ∷ (15 ∷ []) ∷ (16 ∷ []) ∷ []

abbrev pub eight_left : List (List ℕ)
eight_left = (9 ∷ []) ∷ seven_left

-- all stay; one more comes last; the first leaves; none is left
abbrev pub EachMove : Type 0
EachMove =
    Moves until_heard gapped eight_left eight_left × Moves until_late (user 197 (17 ∷ [])) seven_left (seven_left ++ ((17 ∷ []) ∷ []))
    × Moves until_full (tick 129) eight_left seven_left
    × Moves until_late again seven_left []
