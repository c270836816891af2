-- What is claimed of a queue. Each claim is a type here and has its proof in proofs/Claims.antt.
use Rattle.std.specs.Prelude.{ℕ, ◌<◌, List, [], ◌∷◌, ◌++◌, ◌≡◌, length, get_or}
use Rattle.queue.specs.Ring.{places, size, empty_ring, waiting_in, entries, oldest_in, without_oldest, put_ring, put_bytes, Sendable}
use Rattle.queue.specs.declared.Ring.{Ring}

-- ---- the view: a list, the oldest first

abbrev pub EmptyHasNone : Type 0
EmptyHasNone = (q : List ℕ) → entries q empty_ring ≡ []

-- what is put comes last, behind all that wait
abbrev pub PutComesLast : Type 0
PutComesLast =
    (q : List ℕ) (r : Ring) (d : List ℕ) → length q ≡ size → waiting_in r < places → Sendable d
    → entries (put_bytes q r d) (put_ring r d) ≡ entries q r ++ (d ∷ [])

-- nothing changes where all places wait already, or the data could not be sent
abbrev pub PutElseNothing : Type 0
PutElseNothing =
    (q : List ℕ) (r : Ring) (d : List ℕ) → (waiting_in r < places → Sendable d → ⊥)
    → (put_ring r d ≡ r) × (put_bytes q r d ≡ q)

abbrev pub PutKeepsLength : Type 0
PutKeepsLength = (q : List ℕ) (r : Ring) (d : List ℕ) → length (put_bytes q r d) ≡ length q

-- what is handed out is the first, and all others still wait
abbrev pub TakesFirst : Type 0
TakesFirst = (q : List ℕ) (r : Ring) → 0 < r.count → entries q r ≡ oldest_in q r ∷ entries q (without_oldest r)

abbrev pub TakesNone : Type 0
TakesNone = (r : Ring) → r.count ≡ 0 → without_oldest r ≡ r

-- ---- every queue of any bytes

abbrev pub WaitingCounts : Type 0
WaitingCounts = (q : List ℕ) (r : Ring) → length (entries q r) ≡ waiting_in r

abbrev pub EntriesSendable : Type 0
EntriesSendable =
    (q : List ℕ) (r : Ring) (k : ℕ) → length q ≡ size → k < waiting_in r → Sendable (get_or (entries q r) k [])

-- also where none waits
abbrev pub OldestSendable : Type 0
OldestSendable = (q : List ℕ) (r : Ring) → length q ≡ size → Sendable (oldest_in q r)
