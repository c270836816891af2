-- Number, words before, front, words after and the line's end, one behind the other, are the line.
use Rattle.std.proofs.Common.{◌++◌}
use Rattle.rules.specs.Answers.{number_of}
use Rattle.rules.specs.Outputs.{front_output}
use Rattle.script.specs.Words.{decimal_of, line_end}
use Rattle.script.specs.Lines.{words_of, answer_line}
use Rattle.player.specs.Reports.{earlier, later}
use Rattle.player.proofs.Putting.{puts_then}
use Rattle.player.proofs.Lines.{puts_words, outputs_in_order}
use Rattle.player.proofs.text.Text.put_line.Goals as goal

pub returns-clause-puts : goal.returns-clause-puts
unfolding answer_line
returns-clause-puts c =
    let f = c.args.flags in
    let number = decimal_of (number_of c.args.answer) in
    let shown = front_output c.args.front c.args.out.now in
    let before = puts_words (earlier f) shown c.put_earlier.ensures.puts c.put_front.ensures.puts in
    let words = puts_words (earlier f ++ shown) (later f) before c.put_later.ensures.puts in
    let all = words_of (earlier f ++ shown ++ later f) in
    rw outputs_in_order
    (puts_then (number ++ all) line_end (puts_then number all c.put_answer.ensures.puts words) c.put.ensures)
