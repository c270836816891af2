-- The wraps, computed; what follows, by the claims.
use mathlib.Core.Path.{refl}
use lib.Dec.{lit<}
use Rattle.judge.specs.Difference.{diff}
use Rattle.judge.proofs.Difference.{diff_is}
use Rattle.judge.proofs.Wrap.{class_by_difference}
use Rattle.witness.specs.Wrap.{SameAcross, NumbersWrap, ReadingsWrap}

pub same_across : SameAcross
unfolding diff
same_across = (refl, refl, refl, class_by_difference 2 65_534 9 5 4 refl)

pub numbers_wrap : NumbersWrap
numbers_wrap = (lit< tt, refl, diff_is 16 3 1 65_534 (lit< tt) refl)

pub readings_wrap : ReadingsWrap
readings_wrap = (lit< tt, refl, diff_is 32 12 6 4_294_967_290 (lit< tt) refl)
