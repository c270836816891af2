-- A ring of eight places in a list of bytes, for train data that wait.
use Rattle.std.specs.Prelude.{ℕ, zero, suc, ◌+◌, ◌-◌, ◌*◌, ◌%◌, ◌≤◌, min, max, Bool, cond, ◌&&◌, List, [], ◌∷◌, ◌++◌, ltb, leb, eqb, length, take, drop}
use Rattle.std.proofs.lemmas.List.Edits.{sets}
use Rattle.wire.specs.Bytes.{bytes_of, number_at}
use Rattle.wire.specs.Message.{longest}
use Rattle.queue.specs.declared.Ring.{Ring}

-- ---- places

abbrev pub places : ℕ
places = 8

-- a length of two bytes, and room for the longest data
abbrev pub slot_size : ℕ
slot_size = 2 + longest

abbrev pub size : ℕ
size = places * slot_size

-- where the slot of place k starts; the places go round
abbrev pub slot_start : ℕ → ℕ
slot_start k = k % places * slot_size

-- the bytes of the slot that starts at a byte of the queue
abbrev pub slot_from : List ℕ → ℕ → List ℕ
slot_from q start = take slot_size (drop start q)

-- ---- the data of a slot

-- what a slot holds first when it holds d
unfoldable pub slot_bytes : List ℕ → List ℕ
slot_bytes d = bytes_of 2 (length d) ++ d

-- any two bytes are a length that data can have
abbrev pub data_length : List ℕ → ℕ
data_length s = max 1 (min (number_at 2 s 0) longest)

unfoldable pub slot_data : List ℕ → List ℕ
slot_data s = take (data_length s) (drop 2 s)

-- the data at place k
abbrev pub data_at : List ℕ → ℕ → List ℕ
data_at q k = slot_data (slot_from q (slot_start k))

-- data that a message can carry
abbrev pub Sendable : List ℕ → Type 0
Sendable d = (1 ≤ length d) × (length d ≤ longest)

-- ---- the ring

abbrev pub empty_ring : Ring
empty_ring = record { head = 0; count = 0 }

abbrev pub waiting_in : Ring → ℕ
waiting_in r = min r.count places

-- the n data from place k on
abbrev pub data_from : List ℕ → ℕ → ℕ → List (List ℕ)
data_from q k zero = []
data_from q k (suc n) = data_at q k ∷ data_from q (k + 1) n

-- all that wait, the oldest first
abbrev pub entries : List ℕ → Ring → List (List ℕ)
entries q r = data_from q r.head (waiting_in r)

abbrev pub oldest_in : List ℕ → Ring → List ℕ
oldest_in q r = data_at q r.head

-- without the oldest; a ring with none waiting stays as it is
abbrev pub without_oldest : Ring → Ring
without_oldest r = cond (eqb (waiting_in r) 0) r (record { head = (r.head + 1) % places; count = waiting_in r - 1 })

-- ---- one more

-- data have 1 to `longest` bytes, and one more finds a place
abbrev pub has_place : Ring → List ℕ → Bool
has_place r d = ltb (waiting_in r) places && (leb 1 (length d) && leb (length d) longest)

abbrev pub put_ring : Ring → List ℕ → Ring
put_ring r d = cond (has_place r d) (record { head = r.head; count = waiting_in r + 1 }) r

abbrev pub put_bytes : List ℕ → Ring → List ℕ → List ℕ
put_bytes q r d = cond (has_place r d) (sets q (slot_start (r.head + waiting_in r)) (slot_bytes d)) q
