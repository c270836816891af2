-- A message as a row of numbers: kind, number, sent, echo and receipt, then what its body adds.
use Rattle.std.specs.Prelude.{ℕ, Option, None, Some, List, [], ◌∷◌, length, is_some, if◌then◌else◌}
use Rattle.wire.specs.Message.{kind_of, parse}
use Rattle.wire.specs.declared.message.Body.{Body}
use Rattle.wire.specs.declared.message.Body.TheVariants.{OffsetStart, OffsetAnsw1, OffsetAnsw2, OffsetEst, OffsetEnd, LifeSign, TrainData}
use Rattle.wire.specs.declared.message.Message.{Message}
use Rattle.inspect.specs.Hex.{Progress}

-- past the header: the offsets of an estimate, or the first byte of a payload
abbrev pub added_of : Body → List ℕ
added_of OffsetStart = []
added_of OffsetAnsw1 = []
added_of OffsetAnsw2 = []
added_of (OffsetEst minimum maximum) = minimum.0 ∷ maximum.0 ∷ []
added_of OffsetEnd = []
added_of LifeSign = 2 ∷ []
added_of TrainData = 3 ∷ []

abbrev pub row_of : Message → List ℕ
row_of m =
    kind_of m.body ∷ m.header.number ∷ m.header.stamps.sent.0 ∷ m.header.stamps.echo.0 ∷ m.header.stamps.receipt.0 ∷ added_of m.body

abbrev pub count_of : Option Message → ℕ
count_of (Some m) = length (row_of m)
count_of None = 0

-- how many numbers are printed for a line
abbrev pub told : Progress → ℕ
told l = if l.bad then 0 else if is_some l.high then 0 else count_of (parse l.bytes)
