-- The example of the Sunday script, worked out.
use mathlib.Core.Path.{refl}
use Rattle.judge.specs.Difference.{diff}
use Rattle.wire.specs.Message.{parse, encode, header_bytes}
use Rattle.rules.specs.Decide.{decide_of, on_event}
use Rattle.rules.specs.Perform.{performed}
use Rattle.rules.specs.Step.{effect_of, stepped}
use Rattle.script.specs.Forms.{record_in}
use Rattle.script.specs.Lines.{answer_line}
use Rattle.script.specs.Reply.{reply_to}
use Rattle.script.specs.Script.{printed_by}
use Rattle.script.specs.Example.{ExamplePrints}

pub example_prints : ExamplePrints
unfolding printed_by reply_to record_in answer_line stepped effect_of decide_of on_event performed parse encode header_bytes diff
example_prints = refl
