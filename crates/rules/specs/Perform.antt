-- What follows from an act: no tests but those of the act itself, and no bytes.
use Rattle.judge.specs.declared.clock.Reading.{Reading}
use Rattle.rules.specs.Ends.{no_flags, noted_end}
use Rattle.rules.specs.Connecting.{moved}
use Rattle.rules.specs.Exchanging.{started}
use Rattle.rules.specs.Talking.{heard, said}
use Rattle.rules.specs.declared.answer.Answer.{Answer}
use Rattle.rules.specs.declared.act.Act.{Act}
use Rattle.rules.specs.declared.act.Act.TheVariants.{Stay, Note, Move, Start, Hear, Say}
use Rattle.rules.specs.declared.state.End.{End}
use Rattle.rules.specs.declared.effect.Placing.TheVariants.{Nothing}
use Rattle.rules.specs.declared.effect.Effect.{Effect}

-- an end and an answer, with no report and nothing given out
abbrev pub quietly : End → Answer → Effect
quietly end answer = record { end = end; placing = Nothing; flags = no_flags; answer = answer }

unfoldable pub performed : End → Act → Reading → Effect
performed e (Stay answer) at = quietly e answer
performed e (Note answer) at = quietly (noted_end e at) answer
performed e (Move m) at = moved e m at
performed e (Start x) at = started e x at
performed e (Hear v) at = heard e v at
performed e (Say s) at = said e s at
