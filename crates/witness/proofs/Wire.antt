-- The hypotheses, computed; what follows, by the claims.
use Prim.Native.Nat.{ℕ, zero, suc}
use mathlib.Core.Bool.{Bool, true, false, cond, false≢true}
use mathlib.Core.List.{List, [], ◌∷◌}
use mathlib.Core.Path.{◌≡◌, refl}
use lib.Dec.{ltb, lit<, lit≤}
use borrow.Author.Tests.{ltb-true}
use Rattle.wire.proofs.Tests.{by_test}
use Rattle.wire.proofs.Claims.{number_reads_back, number_writes_back, reads_back, writes_back}
use Rattle.wire.specs.Bytes.{AreBytes}
use Rattle.wire.specs.Message.{parse}
use Rattle.wire.specs.Writing.{carries}
use Rattle.wire.specs.Claims.{Fits, BodyFits}
use Rattle.wire.specs.declared.message.Body.{Body}
use Rattle.wire.specs.declared.message.Body.TheVariants.{OffsetStart, OffsetAnsw1, OffsetAnsw2, OffsetEst, OffsetEnd, LifeSign, TrainData}
use Rattle.witness.specs.Wire.{offset, pair, nines, thousand, eighteen, message_of, BodyReadsBack, ThousandReadsBack, ThousandWritesBack, EachReadsBack, EighteenWriteBack}

-- ---- bytes, by a test

all_bytes : List ℕ → Bool
all_bytes [] = true
all_bytes (x ∷ xs) = cond (ltb x 256) (all_bytes xs) false

are_bytes : (s : List ℕ) → all_bytes s ≡ true → AreBytes s
unfolding all_bytes
are_bytes [] = λ all' k. lit< tt
are_bytes (x ∷ xs) =
    by_test (λ (b : Bool). b ≡ true → AreBytes (x ∷ xs)) (ltb x 256)
    (λ first rest. elim [ zero ↦ ltb-true x 256 first | suc k ↦ are_bytes xs rest k ])
    (λ _ no'. absurd (false≢true no'))

thousand_bytes : AreBytes thousand
unfolding all_bytes
thousand_bytes = are_bytes thousand refl

eighteen_bytes : AreBytes eighteen
unfolding all_bytes
eighteen_bytes = are_bytes eighteen refl

-- ---- numbers

pub thousand_reads_back : ThousandReadsBack
thousand_reads_back = (lit≤ tt, lit< tt, refl, number_reads_back 2 1_000 nines 1 (lit≤ tt) (lit< tt))

pub thousand_writes_back : ThousandWritesBack
thousand_writes_back = (thousand_bytes, lit≤ tt, refl, number_writes_back 2 thousand 1 thousand_bytes (lit≤ tt))

-- ---- messages

fits : (body : Body) → BodyFits body → Fits (message_of body)
fits body it = record { number = lit< tt; sent = lit< tt; echo = lit< tt; receipt = lit< tt; body = it }

back : (body : Body) → BodyFits body → carries body pair ≡ true → BodyReadsBack body
back body it carry = (fits body it, carry, reads_back (message_of body) pair (fits body it) carry)

pub each_reads_back : EachReadsBack
each_reads_back = (
  back OffsetStart tt refl,
  back OffsetAnsw1 tt refl,
  back OffsetAnsw2 tt refl,
  back (OffsetEst (offset 4_294_967_237) (offset 4_294_967_247)) (lit< tt, lit< tt) refl,
  back OffsetEnd tt refl,
  back LifeSign tt refl,
  back TrainData tt refl,
)

pub eighteen_write_back : EighteenWriteBack
unfolding parse
eighteen_write_back = (eighteen_bytes, refl, writes_back eighteen (message_of TrainData) eighteen_bytes refl)
