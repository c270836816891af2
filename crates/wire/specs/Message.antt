-- What goes on the line: a message's fields, the bytes that write it, and what any list of bytes reads as.
use Rattle.std.specs.Prelude.{ℕ, ◌+◌, cond, List, [], ◌∷◌, ◌++◌, ltb, leb, eqb, length, get_or, drop, None, Option, Some, option_and_then}
use Rattle.judge.specs.declared.clock.Reading.{Reading}
use Rattle.judge.specs.declared.clock.Offset.{Offset}
use Rattle.judge.specs.declared.clock.Stamps.{Stamps}
use Rattle.wire.specs.Bytes.{bytes_of, number_at}
use Rattle.wire.specs.Table.{Row, lookup}
use Rattle.wire.specs.declared.message.Header.{Header}
use Rattle.wire.specs.declared.message.Body.{Body}
use Rattle.wire.specs.declared.message.Body.TheVariants.{OffsetStart, OffsetAnsw1, OffsetAnsw2, OffsetEst, OffsetEnd, LifeSign, TrainData}
use Rattle.wire.specs.declared.message.Message.{Message}
use Rattle.wire.specs.declared.message.Shape.{Shape}
use Rattle.wire.specs.declared.message.Shape.TheVariants.{Bare, Offsets, Payload}

-- the longest train data of one message
abbrev pub longest : ℕ
longest = 100

-- ---- writing

-- the first byte
abbrev pub kind_of : Body → ℕ
kind_of OffsetStart = 1
kind_of OffsetAnsw1 = 2
kind_of OffsetAnsw2 = 3
kind_of (OffsetEst minimum maximum) = 4
kind_of OffsetEnd = 5
kind_of LifeSign = 6
kind_of TrainData = 6

-- the sender's reading, the reading that it echoes, and its own when it accepted that one
abbrev pub stamp_bytes : Stamps → List ℕ
stamp_bytes s = bytes_of 4 s.sent.0 ++ bytes_of 4 s.echo.0 ++ bytes_of 4 s.receipt.0

-- kind, number and time stamps
unfoldable pub header_bytes : ℕ → Header → List ℕ
header_bytes kind h =
    (kind ∷ bytes_of 2 h.number) ++ stamp_bytes h.stamps

-- what follows the header; d are the train data
abbrev pub body_bytes : Body → List ℕ → List ℕ
body_bytes OffsetStart d = []
body_bytes OffsetAnsw1 d = []
body_bytes OffsetAnsw2 d = []
body_bytes (OffsetEst minimum maximum) d = bytes_of 4 minimum.0 ++ bytes_of 4 maximum.0
body_bytes OffsetEnd d = []
body_bytes LifeSign d = 2 ∷ []
body_bytes TrainData d = 3 ∷ d

unfoldable pub encode : Message → List ℕ → List ℕ
encode m d = header_bytes (kind_of m.body) m.header ++ body_bytes m.body d

-- ---- reading

abbrev pub reading_at : List ℕ → ℕ → Reading
reading_at s i = record { 0 = number_at 4 s i }

abbrev pub offset_at : List ℕ → ℕ → Offset
offset_at s i = record { 0 = number_at 4 s i }

abbrev pub stamps_in : List ℕ → Stamps
stamps_in s = record { sent = reading_at s 3; echo = reading_at s 7; receipt = reading_at s 11 }

abbrev pub header_in : List ℕ → Header
header_in s = record { stamps = stamps_in s; number = number_at 2 s 1 }

-- a message with the header of s
abbrev pub saying : List ℕ → Body → Option Message
saying s b = Some (record { header = header_in s; body = b })

-- the kinds that there are
abbrev pub bare : Body → Row (Option Shape)
bare b = record { key = kind_of b; value = Some (Bare b) }

abbrev pub shapes : List (Row (Option Shape))
shapes =
    bare OffsetStart ∷ bare OffsetAnsw1 ∷ bare OffsetAnsw2 ∷ record { key = 4; value = Some Offsets } ∷ bare OffsetEnd
    ∷ record { key = 6; value = Some Payload } ∷ []

-- every other kind has no shape
abbrev pub shape_of : ℕ → Option Shape
shape_of kind = lookup shapes kind None

-- one byte 2 is a life sign, a byte 3 with 1 to `longest` bytes after it is train data
abbrev pub payload_in : List ℕ → Option Message
payload_in s =
    cond (ltb (length s) 16) None
    (cond (eqb (length s) 16) (cond (eqb (get_or s 15 0) 2) (saying s LifeSign) None)
    (cond (leb (length s) (16 + longest)) (cond (eqb (get_or s 15 0) 3) (saying s TrainData) None) None))

-- what bytes of a shape say, once there are as many as a header has
abbrev pub body_in : Shape → List ℕ → Option Message
body_in (Bare b) s = cond (eqb (length s) 15) (saying s b) None
body_in Offsets s = cond (eqb (length s) 23) (saying s (OffsetEst (offset_at s 15) (offset_at s 19))) None
body_in Payload s = payload_in s

unfoldable pub parse : List ℕ → Option Message
parse s = cond (ltb (length s) 15) None (option_and_then (λ x. body_in x s) (shape_of (get_or s 0 0)))

-- the train data of a message that carries some
abbrev pub train_in : List ℕ → List ℕ
train_in s = drop 16 s
