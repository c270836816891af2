-- Each message carries its place in its connection, counted from 0 modulo 65,536, and the reading of the event that sent it.
use Rattle.std.specs.Prelude.{ℕ, ◌+◌, ◌%◌, ◌^◌, cond, List, [], ◌∷◌, ◌≡◌}
use Rattle.wire.specs.Bytes.{number_at}
use Rattle.run.specs.Run.{Making, Call, Entry, entry_of, history}
use Rattle.run.specs.Events.{opens, is_message_at}
use Rattle.history.specs.Seen.{counted}

-- how many messages leave with an event: one or none
abbrev pub leaving : Entry → ℕ
leaving x = counted (is_message_at x.result.outcome.front)

-- the messages that left since the last ask or accept: with either the counting begins anew
unfoldable pub sent_in_connection : List Entry → ℕ
sent_in_connection [] = 0
sent_in_connection (x ∷ xs) = cond (opens x.result) 0 (sent_in_connection xs + leaving x)

-- in every run: where a message leaves, bytes 1 and 2 are its number, and bytes 3 to 6 the reading of the event
abbrev pub Numbering : Type 0
Numbering =
    (m : Making) (cs : List Call) (c : Call) → leaving (entry_of m cs c) ≡ 1
    → (number_at 2 (entry_of m cs c).result.out 1 ≡ sent_in_connection (history m cs) % 65_536)
    × (number_at 4 (entry_of m cs c).result.out 3 ≡ c.at.0 % 2 ^ 32)
