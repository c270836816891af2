-- The fifteen figures of specs/Figures.antt come out by computing.
use Rattle.std.proofs.Common.{refl}
use Rattle.judge.specs.Difference.{diff}
use Rattle.judge.specs.Figures.{FifteenFigures}

pub fifteen_figures : FifteenFigures
unfolding diff
fifteen_figures = (refl, refl, refl, refl, refl, refl, refl, refl, refl, refl, refl, refl, refl, refl, refl)
