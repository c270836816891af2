-- A run of two ends as a table: what happens at which side, and what is answered and put out. The rows stand in the order of time.
use Rattle.std.specs.Prelude.{ℕ, List, [], ◌∷◌, ◌≡◌, replicate}
use Rattle.queue.specs.Ring.{size}
use Rattle.rules.specs.declared.act.Event.{Event}
use Rattle.rules.specs.declared.act.Event.TheVariants.{Tick, Connect, Confirm, Disconnect, Data, Message}
use Rattle.rules.specs.declared.settings.Settings.{Settings}
use Rattle.rules.specs.declared.state.Role.{Role}
use Rattle.pair.specs.World.{Letter, Datum, Delivery, World}
use Rattle.rules.specs.Claims.{answer_of}
use Rattle.pair.specs.Happening.{Happening, result_at}
use Rattle.pair.specs.Run.{Origin, Beginning, SoundBeginning, Move, Run, begun, next, after}
use Rattle.pair.specs.Run.Move.{wait, at_left, at_right}
use Rattle.witness.specs.Ends.{reading, roomy}
use Rattle.rules.specs.Outputs.{Output}
use Rattle.witness.specs.Table.{outputs_in}

-- ---- how a run begins

-- an end that is made at time 0, with a clock that many ticks ahead
abbrev pub made : Role → Settings → ℕ → Origin
made role settings bias =
    record { making = record { role = role; at = reading bias; settings = settings; queue = replicate size 0 }; bias = bias }

-- an initiator and a called end
abbrev pub beginning : Origin → Origin → Beginning
beginning left right = record { time = 0; left = left; right = right }

-- ---- letters, data and deliveries

-- sent in a connection, under an index, at a time, at a place in the order of sending
abbrev pub letter : ℕ → ℕ → ℕ → ℕ → List ℕ → Letter
letter connection index time place bytes = record { connection = connection; index = index; time = time; place = place; bytes = bytes }

-- data of a connection
abbrev pub of : ℕ → List ℕ → Datum
of connection bytes = record { connection = connection; bytes = bytes }

-- delivered in a connection at a time
abbrev pub delivery : ℕ → ℕ → Letter → Delivery
delivery connection time l = record { letter = l; connection = connection; time = time }

-- ---- calls, with room for the longest output

abbrev pub no_letter : Letter
no_letter = letter 0 0 0 0 []

abbrev pub call : Event → List ℕ → Letter → ℕ → Happening
call event given l ask = record { event = event; given = given; letter = l; out = roomy; ask = ask }

abbrev pub tick : Happening
tick = call Tick [] no_letter 0

-- a connect indication, for the ask of this name
abbrev pub connect : ℕ → Happening
connect ask = call Connect [] no_letter ask

-- one that answers no ask
abbrev pub stray : Happening
stray = connect 0

abbrev pub confirm : Happening
confirm = call Confirm [] no_letter 0

abbrev pub disconnect : Happening
disconnect = call Disconnect [] no_letter 0

abbrev pub user : List ℕ → Happening
user given = call Data given no_letter 0

-- the channel hands over a letter
abbrev pub comes : Letter → Happening
comes l = call Message [] l 0

-- ---- tables

-- so many ticks later something happens at the initiator, or at the called end: the number that answers it, and the outputs
pub data Row : Type 0 where
  left : ℕ → Happening → ℕ → List Output → Row
  right : ℕ → Happening → ℕ → List Output → Row

-- the moves of a table, the newest first
abbrev pub moves_after : List Move → List Row → List Move
moves_after before [] = before
moves_after before (left n c answer outputs ∷ xs) = moves_after (at_left c ∷ wait n ∷ before) xs
moves_after before (right n c answer outputs ∷ xs) = moves_after (at_right c ∷ wait n ∷ before) xs

abbrev pub moves_in : List Row → List Move
moves_in xs = moves_after [] xs

-- the world in which a table leaves two ends
abbrev pub reached : Beginning → List Row → World
reached b xs = after b (moves_in xs)

-- the same, so many ticks later
abbrev pub reached_later : Beginning → List Row → ℕ → World
reached_later b xs n = after b (wait n ∷ moves_in xs)

-- the table that the rules make of the same calls
abbrev pub ruled : World → List Row → List Row
ruled w [] = []
ruled w (left n c answer outputs ∷ xs) =
    let v = next w (wait n) in
    let r = result_at v.time v.left c in
    left n c (answer_of r) (outputs_in r) ∷ ruled (next v (at_left c)) xs
ruled w (right n c answer outputs ∷ xs) =
    let v = next w (wait n) in
    let r = result_at v.time v.right c in
    right n c (answer_of r) (outputs_in r) ∷ ruled (next v (at_right c)) xs

-- both ends can be made so, each move is one that may be made, and all is answered and put out as the table says
pub record Happens (b : Beginning) (xs : List Row) : Type 0 where
  pub sound : SoundBeginning b
  pub run : Run b (moves_in xs)
  pub rows : ruled (begun b) xs ≡ xs
