-- What the bytes of a whole record say, its kind at place 0. The kinds are told apart in Forms.antt.
use Rattle.std.specs.Prelude.{ℕ, ◌+◌, cond, List, leb, eqb, get_or, take, drop, None, Some, Option}
use Rattle.wire.specs.Bytes.{number_at}
use Rattle.wire.specs.Message.{reading_at}
use Rattle.rules.specs.declared.act.Event.{Event}
use Rattle.rules.specs.declared.settings.Settings.{Settings}
use Rattle.rules.specs.declared.state.Role.TheVariants.{Initiator, Called}
use Rattle.script.specs.declared.record.Span.{Span}
use Rattle.script.specs.declared.record.Record.{Record}
use Rattle.script.specs.declared.record.Record.TheVariants.{Make, Happen}

-- ---- a make

-- role, reading, A, W, N, E, R, S, T, C in 1, 4, 4, 4, 2, 1, 4, 4, 4, 4 bytes
abbrev pub settings_in : List ℕ → Settings
settings_in s =
    record {
      age = number_at 4 s 6;
      spread = number_at 4 s 10;
      jump = number_at 2 s 14;
      errors = get_or s 16 0;
      silence = number_at 4 s 17;
      life_sign = number_at 4 s 21;
      wait = number_at 4 s 25;
      retry = number_at 4 s 29;
    }

-- a role over 1 is bad
abbrev pub make_in : List ℕ → Option Record
make_in s =
    cond (eqb (get_or s 1 0) 0) (Some (Make Initiator (reading_at s 2) (settings_in s)))
    (cond (eqb (get_or s 1 0) 1) (Some (Make Called (reading_at s 2) (settings_in s))) None)

-- ---- events

-- a reading alone
abbrev pub plain_in : Event → List ℕ → Option Record
plain_in event s = Some (Happen event (reading_at s 1) (record { from = 0; count = 0 }))

-- a reading, a length of so many bytes, and a field whose first bytes came with the event: so many as the length says, which must
-- not exceed the field
abbrev pub lengthy_in : Event → ℕ → ℕ → List ℕ → Option Record
lengthy_in event width field s =
    cond (leb (number_at width s 5) field)
    (Some (Happen event (reading_at s 1) (record { from = 5 + width; count = number_at width s 5 })))
    None

-- the bytes that came with an event
abbrev pub given_in : List ℕ → Span → List ℕ
given_in s part = take part.count (drop part.from s)
