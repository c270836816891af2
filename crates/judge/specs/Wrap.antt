-- Nothing happens at the wrap: what a sequence number is depends on its difference from the last one alone.
use Rattle.std.specs.Prelude.{◌≡◌, ℕ, ◌+◌, ◌%◌, ◌^◌}
use Rattle.judge.specs.Sequence.{ahead_of, class_of}

-- one difference, one class
abbrev pub ClassByDifference : Type 0
ClassByDifference =
    (received last received' last' limit : ℕ) → ahead_of received last ≡ ahead_of received' last'
    → class_of received last limit ≡ class_of received' last' limit

-- the same added to both
abbrev pub ClassShifts : Type 0
ClassShifts = (received last k limit : ℕ) → class_of (received + k) (last + k) limit ≡ class_of received last limit

-- a number after k more messages, as it stands in the 16 bits of a message
abbrev pub further : ℕ → ℕ → ℕ
further number k = (number + k) % 2 ^ 16

-- the same added to both, each of which may wrap
abbrev pub NothingAtTheWrap : Type 0
NothingAtTheWrap =
    (received last k limit : ℕ) → class_of (further received k) (further last k) limit ≡ class_of received last limit
