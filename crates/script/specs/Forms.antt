-- The kinds of records: one byte of kind fixes the length of a record and what its bytes say.
use Rattle.std.specs.Prelude.{ℕ, ◌+◌, Bool, cond, List, [], ◌∷◌, ltb, length, get_or, take, drop, None, Option}
use Rattle.wire.specs.Table.{Row, lookup}
use Rattle.rules.specs.declared.act.Event.{Event}
use Rattle.rules.specs.declared.act.Event.TheVariants.{Tick, Connect, Confirm, Disconnect, Data, Message}
use Rattle.script.specs.Record.{make_in, plain_in, lengthy_in}
use Rattle.script.specs.declared.record.Record.{Record}

-- the length of a whole record, and what its bytes say
pub record Form : Type 0 where
  pub whole : ℕ
  pub reads : List ℕ → Option Record

abbrev pub form : ℕ → ℕ → (List ℕ → Option Record) → Row Form
form kind whole reads = record { key = kind; value = record { whole = whole; reads = reads } }

-- a reading after the kind
abbrev pub plain : ℕ → Event → Row Form
plain kind event = form kind 5 (plain_in event)

-- a reading after the kind, a length of so many bytes, and a field
abbrev pub lengthy : ℕ → Event → ℕ → ℕ → Row Form
lengthy kind event width field = form kind (5 + width + field) (lengthy_in event width field)

-- the field of user data, and that of a message; neither goes by the longest message on the line
abbrev pub data_field : ℕ
data_field = 100

abbrev pub message_field : ℕ
message_field = 128

-- a new kind is a new row
abbrev pub forms : List (Row Form)
forms =
    form 1 33 make_in
    ∷ plain 2 Tick
    ∷ plain 3 Connect
    ∷ plain 4 Confirm
    ∷ plain 5 Disconnect
    ∷ lengthy 6 Data 1 data_field
    ∷ lengthy 7 Message 1 message_field
    ∷ []

-- every other kind is bad, whatever follows
abbrev pub other_form : Form
other_form = record { whole = 0; reads = λ s. None }

abbrev pub form_of : ℕ → Form
form_of kind = lookup forms kind other_form

-- ---- the record at the front of s

abbrev pub size_in : List ℕ → ℕ
size_in s = (form_of (get_or s 0 0)).whole

-- it is cut
abbrev pub cut : List ℕ → Bool
cut s = ltb (length s) (size_in s)

-- its bytes, and what follows them
abbrev pub record_bytes : List ℕ → List ℕ
record_bytes s = take (size_in s) s

abbrev pub following : List ℕ → List ℕ
following s = drop (size_in s) s

-- what it says; one that is cut is bad
unfoldable pub record_in : List ℕ → Option Record
record_in s = cond (cut s) None ((form_of (get_or s 0 0)).reads s)
