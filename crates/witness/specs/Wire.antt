-- Bytes and messages that read and write back.
use Rattle.std.specs.Prelude.{ℕ, ◌+◌, ◌^◌, ◌≤◌, ◌<◌, true, List, [], ◌∷◌, ◌≡◌, length, Some}
use Rattle.std.proofs.lemmas.List.Edits.{sets}
use Rattle.judge.specs.declared.clock.Offset.{Offset}
use Rattle.wire.specs.Bytes.{bytes_of, number_at, AreBytes}
use Rattle.wire.specs.Message.{encode, parse, train_in}
use Rattle.wire.specs.Writing.{carries}
use Rattle.wire.specs.Claims.{Fits, carried}
use Rattle.wire.specs.declared.message.Body.{Body}
use Rattle.wire.specs.declared.message.Body.TheVariants.{OffsetStart, OffsetAnsw1, OffsetAnsw2, OffsetEst, OffsetEnd, LifeSign, TrainData}
use Rattle.wire.specs.declared.message.Message.{Message}
use Rattle.witness.specs.Ends.{stamped}

-- ---- a number: `NumberReadsBack` and `NumberWritesBack`

-- 1,000 in two bytes, at the place 1 of four bytes
abbrev pub nines : List ℕ
nines = 9 ∷ 9 ∷ 9 ∷ 9 ∷ []

abbrev pub thousand : List ℕ
thousand = 9 ∷ 3 ∷ 232 ∷ 9 ∷ []

abbrev pub ThousandReadsBack : Type 0
ThousandReadsBack =
    (1 + 2 ≤ length nines) × (1_000 < 256 ^ 2) × (sets nines 1 (bytes_of 2 1_000) ≡ thousand)
    × (number_at 2 (sets nines 1 (bytes_of 2 1_000)) 1 ≡ 1_000)

abbrev pub ThousandWritesBack : Type 0
ThousandWritesBack =
    AreBytes thousand × (1 + 2 ≤ length thousand) × (number_at 2 thousand 1 ≡ 1_000)
    × (sets thousand 1 (bytes_of 2 (number_at 2 thousand 1)) ≡ thousand)

-- ---- a message of each kind: `ReadsBack` and `WritesBack`

abbrev pub message_of : Body → Message
message_of body = record { header = stamped 258 70 115 66; body = body }

abbrev pub offset : ℕ → Offset
offset n = record { 0 = n }

-- the train data, which only a body of train data carries
abbrev pub pair : List ℕ
pair = 7 ∷ 8 ∷ []

abbrev pub BodyReadsBack : Body → Type 0
BodyReadsBack body =
    Fits (message_of body) × (carries body pair ≡ true)
    × ((parse (encode (message_of body) pair) ≡ Some (message_of body)) × (carried body (train_in (encode (message_of body) pair)) ≡ carried body pair))

abbrev pub EachReadsBack : Type 0
EachReadsBack =
    BodyReadsBack OffsetStart × BodyReadsBack OffsetAnsw1 × BodyReadsBack OffsetAnsw2
    × BodyReadsBack (OffsetEst (offset 4_294_967_237) (offset 4_294_967_247))
    × BodyReadsBack OffsetEnd
    × BodyReadsBack LifeSign
    × BodyReadsBack TrainData

-- eighteen bytes of train data
abbrev pub eighteen : List ℕ
eighteen = 6 ∷ 1 ∷ 2 ∷ 0 ∷ 0 ∷ 0 ∷ 70 ∷ 0 ∷ 0 ∷ 0 ∷ 115 ∷ 0 ∷ 0 ∷ 0 ∷ 66 ∷ 3 ∷ 7 ∷ 8 ∷ []

abbrev pub EighteenWriteBack : Type 0
EighteenWriteBack =
    AreBytes eighteen × (parse eighteen ≡ Some (message_of TrainData))
    × (Fits (message_of TrainData) × (carries TrainData (train_in eighteen) ≡ true) × (encode (message_of TrainData) (train_in eighteen) ≡ eighteen))
