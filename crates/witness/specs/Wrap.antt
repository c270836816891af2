-- One difference on this side of the wrap and across it, as `ClassByDifference` and `DifferenceIs` ask.
use Rattle.std.specs.Prelude.{◌+◌, ◌%◌, ◌^◌, ◌<◌, ◌≡◌}
use Rattle.judge.specs.Difference.{diff}
use Rattle.judge.specs.Sequence.{ahead_of, class_of}
use Rattle.judge.specs.declared.sequence.Class.TheVariants.{Gap}

-- 2 after 65,534, and 9 after 5
abbrev pub SameAcross : Type 0
SameAcross =
    (ahead_of 2 65_534 ≡ ahead_of 9 5) × (ahead_of 9 5 ≡ 4) × (class_of 9 5 4 ≡ Gap) × (class_of 2 65_534 4 ≡ class_of 9 5 4)

abbrev pub NumbersWrap : Type 0
NumbersWrap = (3 < 2 ^ 16) × ((65_534 + 3) % 2 ^ 16 ≡ 1 % 2 ^ 16) × (diff 16 1 65_534 ≡ 3)

abbrev pub ReadingsWrap : Type 0
ReadingsWrap = (12 < 2 ^ 32) × ((4_294_967_290 + 12) % 2 ^ 32 ≡ 6 % 2 ^ 32) × (diff 32 6 4_294_967_290 ≡ 12)
