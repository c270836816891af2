-- Sequence numbers: 16 bits, and they wrap.
use Rattle.std.specs.Prelude.{ℕ, Bool, cond, ◌==◌, nat_le}
use Rattle.judge.specs.Difference.{diff}
use Rattle.judge.specs.declared.sequence.Class.{Class}
use Rattle.judge.specs.declared.sequence.Class.TheVariants.{Expected, Gap, Lost, Old}

-- d: by how much a received number is ahead of the last one accepted
abbrev pub ahead_of : ℕ → ℕ → ℕ
ahead_of received last = diff 16 received last

abbrev pub next_of : ℕ → ℕ → Bool
next_of received last = ahead_of received last == 1

-- d = 1 is expected, 2 to the limit a gap, more than that lost, 0 or 32,768 and more old
abbrev pub class_at : ℕ → ℕ → Class
class_at d limit =
    cond (d == 0) Old (cond (d == 1) Expected (cond (nat_le 32768 d) Old (cond (nat_le d limit) Gap Lost)))

abbrev pub class_of : ℕ → ℕ → ℕ → Class
class_of received last limit = class_at (ahead_of received last) limit
