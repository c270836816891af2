-- The user's data leave in the order in which they were handed in, each once and unchanged, but for those lost by going down.
use Rattle.std.specs.Prelude.{ℕ, cond, ◌&&◌, List, [], ◌∷◌, ◌++◌, ◌≡◌, eqb, get_or, take}
use Rattle.queue.specs.Ring.{entries}
use Rattle.wire.specs.Message.{train_in}
use Rattle.rules.specs.Claims.{answer_of}
use Rattle.rules.specs.declared.act.Event.{Event}
use Rattle.rules.specs.declared.state.Life.TheVariants.{Idle, Up}
use Rattle.rules.specs.declared.effect.Front.{Front}
use Rattle.rules.specs.declared.effect.Front.TheVariants.{Nothing as none, Message as message, Datum as datum}
use Rattle.run.specs.Run.{Making, Sound, Call, Entry, Kept, after, history}
use Rattle.run.specs.Events.{is_handed_in, opens}

-- ---- what one event does with the user's data

-- handed in: user data that were answered 0
abbrev pub handed_by : Event → ℕ → List ℕ → List (List ℕ)
handed_by event answer given = cond (is_handed_in event answer) (given ∷ []) []

abbrev pub handed_in : Entry → List (List ℕ)
handed_in x = handed_by x.call.event (answer_of x.result) x.call.given

-- the train data that a message carries: it is of kind 6, and the first byte of its payload is 3
abbrev pub carried_in : List ℕ → List (List ℕ)
carried_in s = cond (eqb (get_or s 0 0) 6 && eqb (get_or s 15 0) 3) (train_in s ∷ []) []

abbrev pub carried_at : Front → List ℕ → List (List ℕ)
carried_at none out = []
carried_at (message n) out = carried_in (take n out)
carried_at (datum n) out = []

-- sent: the train data of the message that left
abbrev pub sent_in : Entry → List (List ℕ)
sent_in x = carried_at x.result.outcome.front x.result.out

-- what waits, the oldest first
abbrev pub waiting : Kept → List (List ℕ)
waiting k = entries k.queue k.end.ring

-- lost: what waited when the end went down
abbrev pub lost_in : Entry → List (List ℕ)
lost_in x = cond x.result.outcome.flags.down (waiting x.before) []

-- ---- what a connection's events do with them

-- the data that the events since the last ask or accept yield, the oldest first
unfoldable pub in_connection : (Entry → List (List ℕ)) → List Entry → List (List ℕ)
in_connection yields [] = []
in_connection yields (x ∷ xs) = cond (opens x.result) [] (in_connection yields xs ++ yields x)

-- in every run: the data handed in in a connection are those sent in it, then those lost, then those that wait;
-- as lists, so the order is one, none is sent twice or left out, and no byte differs
abbrev pub Sending : Type 0
Sending =
    (m : Making) → Sound m → (cs : List Call)
    → in_connection handed_in (history m cs)
    ≡ in_connection sent_in (history m cs) ++ (in_connection lost_in (history m cs) ++ waiting (after m cs))

-- until an end goes down, nothing of its connection is lost
abbrev pub NothingLost : Type 0
NothingLost =
    (m : Making) → Sound m → (cs : List Call) → ((after m cs).end.life ≡ Idle → ⊥) → in_connection lost_in (history m cs) ≡ []

-- nothing waits but while Up
abbrev pub WaitsWhileUp : Type 0
WaitsWhileUp = (m : Making) → Sound m → (cs : List Call) → ((after m cs).end.life ≡ Up → ⊥) → waiting (after m cs) ≡ []
