-- What is claimed of the bytes of the line. Each claim is a type here and has its proof in proofs/Claims.antt.
use Rattle.std.specs.Prelude.{ℕ, ◌+◌, ◌^◌, ◌≤◌, ◌<◌, true, List, [], ◌≡◌, length, Some}
use Rattle.std.proofs.lemmas.List.Edits.{sets}
use Rattle.wire.specs.Bytes.{bytes_of, number_at, AreBytes}
use Rattle.wire.specs.Message.{encode, parse, train_in}
use Rattle.wire.specs.Writing.{carries}
use Rattle.wire.specs.declared.message.Body.{Body}
use Rattle.wire.specs.declared.message.Body.TheVariants.{OffsetStart, OffsetAnsw1, OffsetAnsw2, OffsetEst, OffsetEnd, LifeSign, TrainData}
use Rattle.wire.specs.declared.message.Message.{Message}

-- ---- numbers, over the number n of their bytes

-- a number that was written at a place is read there
abbrev pub NumberReadsBack : Type 0
NumberReadsBack =
    (n x : ℕ) (s : List ℕ) (i : ℕ) → i + n ≤ length s → x < 256 ^ n → number_at n (sets s i (bytes_of n x)) i ≡ x

-- a number that was read at a place leaves the bytes as they are when it is written there
abbrev pub NumberWritesBack : Type 0
NumberWritesBack =
    (n : ℕ) (s : List ℕ) (i : ℕ) → AreBytes s → i + n ≤ length s → sets s i (bytes_of n (number_at n s i)) ≡ s

-- ---- messages

abbrev pub BodyFits : Body → Type 0
BodyFits OffsetStart = Unit {0}
BodyFits OffsetAnsw1 = Unit {0}
BodyFits OffsetAnsw2 = Unit {0}
BodyFits (OffsetEst minimum maximum) = (minimum.0 < 2 ^ 32) × (maximum.0 < 2 ^ 32)
BodyFits OffsetEnd = Unit {0}
BodyFits LifeSign = Unit {0}
BodyFits TrainData = Unit {0}

-- the train data of a message: none but where its body is train data
abbrev pub carried : Body → List ℕ → List ℕ
carried OffsetStart d = []
carried OffsetAnsw1 d = []
carried OffsetAnsw2 d = []
carried (OffsetEst minimum maximum) d = []
carried OffsetEnd d = []
carried LifeSign d = []
carried TrainData d = d

-- the fields have the widths of the line: what the types of the code say of every message
pub record Fits (m : Message) : Type 0 where
  pub number : m.header.number < 2 ^ 16
  pub sent : m.header.stamps.sent.0 < 2 ^ 32
  pub echo : m.header.stamps.echo.0 < 2 ^ 32
  pub receipt : m.header.stamps.receipt.0 < 2 ^ 32
  pub body : BodyFits m.body

-- whatever can be written reads back as the same fields, and its train data as the same bytes
abbrev pub ReadsBack : Type 0
ReadsBack =
    (m : Message) (d : List ℕ) → Fits m → carries m.body d ≡ true
    → (parse (encode m d) ≡ Some m) × (carried m.body (train_in (encode m d)) ≡ carried m.body d)

-- whatever is read can be written, and would be written with the same bytes
abbrev pub WritesBack : Type 0
WritesBack =
    (s : List ℕ) (m : Message) → AreBytes s → parse s ≡ Some m
    → Fits m × (carries m.body (train_in s) ≡ true) × (encode m (train_in s) ≡ s)
