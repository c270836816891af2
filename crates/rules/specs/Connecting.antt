-- A connection is asked for, accepted, lost or ended.
use Rattle.std.specs.Prelude.{Bool, true, false}
use Rattle.judge.specs.declared.clock.Reading.{Reading}
use Rattle.queue.specs.Ring.{empty_ring}
use Rattle.rules.specs.State.{new_line}
use Rattle.rules.specs.Ends.{was_up, moved_end, asked_end, fallen_end}
use Rattle.rules.specs.declared.answer.Answer.{Answer}
use Rattle.rules.specs.declared.answer.Answer.TheVariants.{Handled}
use Rattle.rules.specs.declared.act.ConnectionMove.{ConnectionMove}
use Rattle.rules.specs.declared.act.ConnectionMove.TheVariants.{Ask, Accept, Lose, Fall}
use Rattle.rules.specs.declared.state.Life.TheVariants.{Greeted}
use Rattle.rules.specs.declared.state.End.{End}
use Rattle.rules.specs.declared.effect.Placing.TheVariants.{Nothing}
use Rattle.rules.specs.declared.effect.Effect.{Effect}

-- down if it was Up, after an error report and a release where these are due
abbrev pub falling : End → Reading → Answer → Bool → Bool → Effect
falling e at answer error release =
    record {
      end = fallen_end e at;
      placing = Nothing;
      flags = record { ask = false; accept = false; up = false; error = error; release = release; down = was_up e };
      answer = answer;
    }

abbrev pub moved : End → ConnectionMove → Reading → Effect
moved e Ask at =
    record {
      end = asked_end e at;
      placing = Nothing;
      flags = record { ask = true; accept = false; up = false; error = false; release = false; down = false };
      answer = Handled;
    }
moved e Accept at =
    record {
      end = moved_end e at Greeted (new_line at) empty_ring;
      placing = Nothing;
      flags = record { ask = false; accept = true; up = false; error = false; release = false; down = was_up e };
      answer = Handled;
    }
moved e Lose at = falling e at Handled false false
moved e (Fall answer error) at = falling e at answer error true
