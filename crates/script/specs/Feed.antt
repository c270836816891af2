-- What a program does between two reads: it plays what waits in its buffer, and makes room where more must come.
use Rattle.std.specs.Prelude.{ℕ, ◌+◌, Bool, true, false, cond, List, eqb, length}
use Rattle.std.proofs.lemmas.List.Edits.{sets}
use Rattle.std.proofs.Math.Seq.{slice}
use Rattle.script.specs.Play.{Piece}
use Rattle.script.specs.declared.reply.Next.{Next}
use Rattle.script.specs.declared.reply.Next.TheVariants.{Again, Read, Stop}

-- a buffer, and where the bytes start and end that are still to be played
pub record Input : Type 0 where
  pub buffer : List ℕ
  pub start : ℕ
  pub end : ℕ

abbrev pub input_as : List ℕ → ℕ → ℕ → Input
input_as buffer start end = record { buffer = buffer; start = start; end = end }

-- these bytes: none where the places are out of order, and no more than there are
abbrev pub waiting : Input → List ℕ
waiting i = slice i.start i.end i.buffer

abbrev pub past_used : ℕ → Input → Input
past_used n i = input_as i.buffer (i.start + n) i.end

abbrev pub at_front : Input → Input
at_front i = input_as (sets i.buffer 0 (waiting i)) 0 (length (waiting i))

-- a bad record ends all. Where nothing could be played, more must come; if none can come, that is the end
abbrev pub next_after : Bool → Piece → Next
next_after over p = cond p.ended Stop (cond (eqb p.used 0) (cond over Stop Read) Again)

-- before a read what waits is moved to the front, so that there is room behind it
abbrev pub input_after : Next → ℕ → Input → Input
input_after Again used i = past_used used i
input_after Read used i = at_front i
input_after Stop used i = past_used used i

abbrev pub stops : Next → Bool
stops Again = false
stops Read = false
stops Stop = true
