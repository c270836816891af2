-- The example of the Sunday script, computed.
use mathlib.Core.Path.{refl}
use Rattle.judge.specs.Difference.{diff}
use Rattle.wire.specs.Message.{parse, encode, header_bytes}
use Rattle.rules.specs.Decide.{decide_of, on_event}
use Rattle.rules.specs.Perform.{performed}
use Rattle.rules.specs.Step.{effect_of, stepped}
use Rattle.run.specs.Run.{after, history}
use Rattle.witness.specs.Sunday.{SundayHappens}

pub sunday_happens : SundayHappens
unfolding history after stepped effect_of performed decide_of on_event parse encode header_bytes diff
sunday_happens = ((refl, refl), refl)
