-- The claims of specs/Wrap.antt, from the one difference over its width.
use Rattle.std.proofs.Common.{◌≡◌, ℕ, ◌+◌, ◌%◌, ◌^◌, ap, ◌∙◌}
use native.Mathlib.Nat.{mod-mod}
use Rattle.judge.proofs.Difference.{diff_shifts}
use Rattle.judge.specs.Difference.{diff}
use Rattle.judge.specs.Sequence.{class_at}
use Rattle.judge.specs.Wrap.{ClassByDifference, ClassShifts, NothingAtTheWrap}

pub class_by_difference : ClassByDifference
class_by_difference received last received' last' limit same = ap (λ (d : ℕ). class_at d limit) same

pub class_shifts : ClassShifts
class_shifts received last k limit = ap (λ (d : ℕ). class_at d limit) (diff_shifts 16 received last k)

-- a difference looks at remainders alone
diff_wrapped : (w a b : ℕ) → diff w (a % 2 ^ w) (b % 2 ^ w) ≡ diff w a b
unfolding diff
diff_wrapped w a b = rw (mod-mod a (2 ^ w), mod-mod b (2 ^ w))

pub nothing_at_the_wrap : NothingAtTheWrap
nothing_at_the_wrap received last k limit =
    ap (λ (d : ℕ). class_at d limit) (diff_wrapped 16 (received + k) (last + k) ∙ diff_shifts 16 received last k)
