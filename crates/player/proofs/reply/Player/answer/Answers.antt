-- A number and a line's end, one behind the other, are the line.
use Rattle.std.proofs.Common.{refl, append-nil}
use Rattle.rules.specs.Answers.{number_of}
use Rattle.script.specs.Words.{decimal_of, line_end}
use Rattle.script.specs.Lines.{answer_line}
use Rattle.player.proofs.Putting.{puts_then}
use Rattle.player.proofs.reply.Player.answer.Goals as goal

pub returns : goal.returns
unfolding answer_line
returns c =
    let puts = puts_then (decimal_of (number_of c.args.answer)) line_end c.put_answer.ensures.puts c.put.ensures in
    record {
      leaves = record { out_lent = refl; q_lent = refl; text_lent = refl; held = refl; puts = rw append-nil puts };
      bad = refl;
    }
