-- Queues in which data wait, come last and leave first, also where the places go round.
use Rattle.std.specs.Prelude.{ℕ, ◌<◌, List, [], ◌∷◌, ◌++◌, ◌≡◌, length, get_or, replicate}
use Rattle.queue.specs.Ring.{places, size, empty_ring, waiting_in, entries, oldest_in, without_oldest, put_ring, put_bytes, Sendable}
use Rattle.queue.specs.declared.Ring.{Ring}

-- one datum waits, at the last place
abbrev pub last_place : Ring
last_place = record { head = 7; count = 0 }

abbrev pub one_waits : Ring
one_waits = record { head = 7; count = 1 }

abbrev pub holding_one : List ℕ
holding_one = put_bytes (replicate size 0) last_place (5 ∷ 6 ∷ [])

-- one more goes to the first place: `PutComesLast`
abbrev pub second : List ℕ
second = 1 ∷ 2 ∷ 3 ∷ []

abbrev pub SecondComesLast : Type 0
SecondComesLast =
    (length holding_one ≡ size) × (waiting_in one_waits < places) × Sendable second × (entries holding_one one_waits ≡ (5 ∷ 6 ∷ []) ∷ [])
    × (entries (put_bytes holding_one one_waits second) (put_ring one_waits second) ≡ entries holding_one one_waits ++ (second ∷ []))

-- two wait; the first of them leaves: `TakesFirst`
abbrev pub two_wait : Ring
two_wait = record { head = 7; count = 2 }

abbrev pub holding_two : List ℕ
holding_two = put_bytes holding_one one_waits second

abbrev pub FirstLeaves : Type 0
FirstLeaves =
    (0 < two_wait.count) × (oldest_in holding_two two_wait ≡ 5 ∷ 6 ∷ [])
    × (entries holding_two (without_oldest two_wait) ≡ second ∷ [])
    × (entries holding_two two_wait ≡ oldest_in holding_two two_wait ∷ entries holding_two (without_oldest two_wait))

-- the second can be sent, and so can what stands at the head of a queue of any bytes: `EntriesSendable`, `OldestSendable`
abbrev pub SecondIsSendable : Type 0
SecondIsSendable =
    (length holding_two ≡ size) × (1 < waiting_in two_wait) × (get_or (entries holding_two two_wait) 1 [] ≡ second)
    × Sendable (get_or (entries holding_two two_wait) 1 [])

abbrev pub noise : List ℕ
noise = replicate size 255

abbrev pub AnyBytesAreSendable : Type 0
AnyBytesAreSendable =
    (length noise ≡ size) × (length (oldest_in noise empty_ring) ≡ 100) × Sendable (oldest_in noise empty_ring)

-- none leaves where none waits: `TakesNone`
abbrev pub NoneLeaves : Type 0
NoneLeaves = (last_place.count ≡ 0) × (without_oldest last_place ≡ last_place)

-- eight wait, or there are no data, or too many bytes, and nothing changes: `PutElseNothing`
abbrev pub full : Ring
full = record { head = 3; count = 8 }

abbrev pub PutsNothing : Ring → List ℕ → Type 0
PutsNothing r d =
    (waiting_in r < places → Sendable d → ⊥) × ((put_ring r d ≡ r) × (put_bytes holding_one r d ≡ holding_one))

abbrev pub NothingIsPut : Type 0
NothingIsPut = PutsNothing full (1 ∷ []) × PutsNothing one_waits [] × PutsNothing one_waits (replicate 101 1)
