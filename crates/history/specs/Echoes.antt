-- The stamps that a message echoes: those of the last message accepted in its connection, and 0 before any. And an Idle end holds nothing of a
-- connection.
use Rattle.std.specs.Prelude.{◌%◌, ◌^◌, cond, List, [], ◌∷◌, ◌≡◌}
use Rattle.wire.specs.Bytes.{number_at}
use Rattle.wire.specs.Message.{reading_at}
use Rattle.rules.specs.Claims.{answer_of, IdleHoldsNothing}
use Rattle.rules.specs.State.{zero_reading}
use Rattle.rules.specs.declared.state.Echo.{Echo}
use Rattle.run.specs.Run.{Making, Call, Entry, after, entry_of, history}
use Rattle.run.specs.Events.{is_acceptance, opens}
use Rattle.history.specs.Numbering.{leaving}

abbrev pub no_echo : Echo
no_echo = record { peer = zero_reading; own = zero_reading }

-- the sender's reading in a message that was accepted, which stands at its bytes 3 to 6, and the own one then
abbrev pub echo_of : Entry → Echo
echo_of x = record { peer = reading_at x.call.given 3; own = x.call.at }

-- of the last message accepted since the last ask or accept
unfoldable pub echo_since : List Entry → Echo
echo_since [] = no_echo
echo_since (x ∷ xs) =
    cond (opens x.result) no_echo (cond (is_acceptance x.call.event (answer_of x.result)) (echo_of x) (echo_since xs))

-- in every run: where a message leaves, bytes 7 to 10 are the peer's reading, and bytes 11 to 14 the own one; a message that leaves
-- with the event that accepts another echoes that one
abbrev pub EchoesLastAccepted : Type 0
EchoesLastAccepted =
    (m : Making) (cs : List Call) (c : Call) → leaving (entry_of m cs c) ≡ 1 → let echo = echo_since (entry_of m cs c ∷ history m cs) in
    (number_at 4 (entry_of m cs c).result.out 7 ≡ echo.peer.0 % 2 ^ 32)
    × (number_at 4 (entry_of m cs c).result.out 11 ≡ echo.own.0 % 2 ^ 32)

abbrev pub RestsEmpty : Type 0
RestsEmpty = (m : Making) (cs : List Call) → IdleHoldsNothing (after m cs).end
