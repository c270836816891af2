-- A word, and the digits behind it.
use Rattle.script.specs.Words.{hex_of}
use Rattle.player.proofs.Putting.{puts_then}
use Rattle.player.proofs.text.Text.put_shown.Goals as goal

pub returns-clause-puts : goal.returns-clause-puts
returns-clause-puts c = puts_then c.args.word.now (hex_of c.args.given.now) c.put.ensures c.put_hex.ensures.puts
