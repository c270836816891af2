-- Fifteen worked figures (docs/RULES.md has them): one table, on its left what the functions of the rules work out, on its right the values.
use Rattle.std.specs.Prelude.{◌≡◌, ℕ}
use Rattle.judge.specs.Clock.{offsets_by, spread_of, age_of}
use Rattle.judge.specs.Sequence.{class_of}
use Rattle.judge.specs.declared.clock.Reading.{Reading}
use Rattle.judge.specs.declared.clock.Stamps.{Stamps}
use Rattle.judge.specs.declared.clock.Offsets.{Offsets}
use Rattle.judge.specs.declared.sequence.Class.{Class}
use Rattle.judge.specs.declared.sequence.Class.TheVariants.{Expected, Gap, Lost, Old}

abbrev pub at : ℕ → Reading
at n = record { 0 = n }

-- the class of a received number, when the last one was 65,534 and the jump limit is 4
abbrev pub class_now : ℕ → Class
class_now received = class_of received 65_534 4

-- kind 2, which answers a kind 1 of 5,000: the called end had that at 4,006, and answered then
abbrev pub stamps_of_kind2 : Stamps
stamps_of_kind2 = record { sent = at 4_006; echo = at 5_000; receipt = at 4_006 }

-- it comes to the initiator at 5,009
abbrev pub at_initiator : Offsets
at_initiator = offsets_by stamps_of_kind2 (at 5_009)

-- kind 3, which the initiator sends then
abbrev pub stamps_of_kind3 : Stamps
stamps_of_kind3 = record { sent = at 5_009; echo = at 4_006; receipt = at 5_009 }

-- it comes to the called end at 4,013
abbrev pub at_called : Offsets
at_called = offsets_by stamps_of_kind3 (at 4_013)

abbrev pub FifteenFigures : Type 0
FifteenFigures =
    (class_now 65_535 ≡ Expected)
    × (class_now 0 ≡ Gap)
    × (class_now 2 ≡ Gap)
    × (class_now 3 ≡ Lost)
    × (class_now 32_765 ≡ Lost)
    × (class_now 32_766 ≡ Old)
    × (class_now 65_534 ≡ Old)
    × (at_initiator.minimum.0 ≡ 994)
    × (at_initiator.maximum.0 ≡ 1_003)
    × (spread_of at_initiator ≡ 9)
    × (at_called.minimum.0 ≡ 4_294_966_293)
    × (at_called.maximum.0 ≡ 4_294_966_300)
    × (spread_of at_called ≡ 7)
    × (age_of (at 5_112) (at 4_100) at_initiator ≡ 18)
    × (age_of (at 1_000) (at 4_294_967_290) at_initiator ≡ 12)
