-- What is claimed of one event, whatever the end, the reading and the bytes. Proofs: proofs/Claims.antt.
use Rattle.std.specs.Prelude.{ℕ, List, [], ◌∷◌, ◌++◌, ◌⊎◌, ◌≡◌, length, take, drop, Ok, Some}
use Rattle.judge.specs.declared.clock.Reading.{Reading}
use Rattle.queue.specs.Ring.{size, empty_ring, entries}
use Rattle.wire.specs.Message.{encode, parse, train_in}
use Rattle.wire.specs.declared.message.Message.{Message}
use Rattle.rules.specs.Answers.{number_of}
use Rattle.rules.specs.State.{blank_line}
use Rattle.rules.specs.declared.answer.Answer.{Answer}
use Rattle.rules.specs.declared.act.Event.{Event}
use Rattle.rules.specs.declared.settings.Settings.{Settings}
use Rattle.rules.specs.declared.state.Role.{Role}
use Rattle.rules.specs.declared.state.Life.TheVariants.{Idle}
use Rattle.rules.specs.declared.state.End.{End}
use Rattle.rules.specs.Given.{Given}
use Rattle.rules.specs.Make.{Made, made_of}
use Rattle.rules.specs.Step.{Result, stepped}
use Rattle.rules.specs.declared.effect.Front.{Front}
use Rattle.rules.specs.declared.effect.Front.TheVariants.{Nothing as none, Message as message, Datum as datum}

-- ---- no second outcome fits

-- what `step` promises of its outcome, its output and its queue
abbrev pub StepPromise : End → Event → Reading → List ℕ → List ℕ → List ℕ → Result → Type 0
StepPromise e event at given out q r = r ≡ stepped e event at given out q

abbrev pub OneResult : Type 0
OneResult =
    (e : End) (event : Event) (at : Reading) (given out q : List ℕ) (r s : Result) → StepPromise e event at given out q r
    → StepPromise e event at given out q s → r ≡ s

abbrev pub MakePromise : Role → Reading → Settings → Made → Type 0
MakePromise role at settings m = m ≡ made_of role at settings

abbrev pub OneEnd : Type 0
OneEnd =
    (role : Role) (at : Reading) (settings : Settings) (m n : Made) → MakePromise role at settings m → MakePromise role at settings n
    → m ≡ n

abbrev pub answer_of : Result → ℕ
answer_of r = number_of r.outcome.answer

-- two answers with one number are one answer
abbrev pub OneAnswer : Type 0
OneAnswer = (a c : Answer) → number_of a ≡ number_of c → a ≡ c

-- ---- an Idle end holds nothing of a connection

abbrev pub IdleHoldsNothing : End → Type 0
IdleHoldsNothing e = e.life ≡ Idle → (e.line ≡ blank_line) × (e.ring ≡ empty_ring)

abbrev pub FreshHoldsNothing : Type 0
FreshHoldsNothing = (role : Role) (at : Reading) (settings : Settings) (e : End) → made_of role at settings ≡ Ok e → IdleHoldsNothing e

abbrev pub StepHoldsNothing : Type 0
StepHoldsNothing =
    (e : End) (event : Event) (at : Reading) (given out q : List ℕ) → IdleHoldsNothing e
    → IdleHoldsNothing (stepped e event at given out q).outcome.end

-- ---- at most one message or datum leaves, at the front of the output

abbrev pub FrontIs : Front → List ℕ → List ℕ → List ℕ → Type 0
FrontIs none given out after = after ≡ out
FrontIs (message n) given out after =
    (m : Message) × (d : List ℕ) × (n ≡ length (encode m d)) × (after ≡ encode m d ++ drop n out)
FrontIs (datum n) given out after = (n ≡ length (train_in given)) × (after ≡ train_in given ++ drop n out)

abbrev pub OneAtTheFront : Type 0
OneAtTheFront =
    (e : End) (event : Event) (at : Reading) (given out q : List ℕ)
    → FrontIs (stepped e event at given out q).outcome.front given out (stepped e event at given out q).out

-- ---- the queue's list is the old one, or it with the user's data at the end, or without its first, or empty

abbrev pub QueueMoves : Type 0
QueueMoves =
    (e : End) (event : Event) (at : Reading) (given out q : List ℕ) → length q ≡ size
    → let r = stepped e event at given out q in
    let before = entries q e.ring in
    let after = entries r.queue r.outcome.end.ring in
    (after ≡ before) ⊎ ((after ≡ before ++ (given ∷ [])) ⊎ (((d : List ℕ) × (before ≡ d ∷ after)) ⊎ (after ≡ [])))

-- ---- the table of answers: given exactly when

abbrev pub GivenExactlyWhen : Type 0
GivenExactlyWhen =
    (e : End) (event : Event) (at : Reading) (given out q : List ℕ) (a : Answer)
    → let r = stepped e event at given out q in
    (r.outcome.answer ≡ a → Given e event at given (length out) a) × (Given e event at given (length out) a → r.outcome.answer ≡ a)

-- ---- what is sent reads back: any record, and any bytes in the queue

abbrev pub SentReadsBack : Type 0
SentReadsBack =
    (e : End) (event : Event) (at : Reading) (given out q : List ℕ) (n : ℕ) → length q ≡ size
    → let r = stepped e event at given out q in
    r.outcome.front ≡ message n → (m : Message) × (parse (take n r.out) ≡ Some m)
