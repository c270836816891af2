-- Messages leave, as `Numbering` asks, with the numbers of their places, and in a new connection with numbers from 0 on.
use Rattle.std.specs.Prelude.{ℕ, ◌%◌, ◌^◌, List, [], ◌∷◌, ◌++◌, ◌≡◌}
use Rattle.wire.specs.Bytes.{number_at}
use Rattle.rules.specs.declared.act.Event.TheVariants.{Tick}
use Rattle.rules.specs.Step.{stepped}
use Rattle.run.specs.Run.{Call, entry_of, history}
use Rattle.history.specs.Echoes.{echo_since}
use Rattle.history.specs.Numbering.{leaving, sent_in_connection}
use Rattle.witness.specs.Ends.{initiator, reading, roomy, tick, confirm}
use Rattle.witness.specs.Table.{calls_in}
use Rattle.witness.specs.Initiator.{until_full, until_down, resting}
use Rattle.witness.specs.Delivery.{before_the_wrap}

-- after some calls one more sends a message, which is the one with this number and carries this reading
abbrev pub Numbers : List Call → Call → ℕ → ℕ → Type 0
Numbers cs c number reading =
    let x = entry_of initiator cs c in
    (leaving x ≡ 1) × (sent_in_connection (history initiator cs) ≡ number) × (c.at.0 ≡ reading)
    × ((number_at 2 x.result.out 1 ≡ sent_in_connection (history initiator cs) % 65_536) × (number_at 4 x.result.out 3 ≡ c.at.0 % 2 ^ 32))

-- three messages of the start and two with user data had left
abbrev pub SixthIsNumbered : Type 0
SixthIsNumbered = Numbers (calls_in until_full) (tick 129) 5 129

-- six had left, and then the end went down and asked again
abbrev pub FirstAgain : Type 0
FirstAgain = Numbers (tick 200 ∷ calls_in (until_down ++ resting)) (confirm 201) 0 201

-- at an end that has sent 65,535 messages a life sign takes the last number, and the next message has 0 again
abbrev pub NumbersEnd : Type 0
NumbersEnd =
    let r = stepped before_the_wrap Tick (reading 1_000) [] roomy initiator.queue in
    (number_at 2 r.out 1 ≡ 65_535) × (r.outcome.end.line.numbers.next ≡ 0)

-- ---- echoes: `EchoesLastAccepted`

-- what leaves with an event echoes these two readings, as the history has them
abbrev pub Echoes : List Call → Call → ℕ → ℕ → Type 0
Echoes cs c peer own =
    let x = entry_of initiator cs c in
    let echo = echo_since (x ∷ history initiator cs) in
    (leaving x ≡ 1) × (echo.peer.0 ≡ peer) × (echo.own.0 ≡ own)
    × ((number_at 4 x.result.out 7 ≡ echo.peer.0 % 2 ^ 32) × (number_at 4 x.result.out 11 ≡ echo.own.0 % 2 ^ 32))

-- kind 1 echoes nothing; a datum from the queue echoes kind 4, which was sent at 60 and came at 115
abbrev pub FirstEchoesNothing : Type 0
FirstEchoesNothing = Echoes (tick 100 ∷ []) (confirm 103) 0 0

abbrev pub SixthEchoesTheLast : Type 0
SixthEchoesTheLast = Echoes (calls_in until_full) (tick 129) 60 115
