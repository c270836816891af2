-- The digits of one more byte are put behind those so far.
use Rattle.std.proofs.Common.{[], ◌∷◌, take, arith}
use Rattle.script.specs.Words.{hex_of}
use Rattle.player.proofs.Putting.{puts_then, hex_of-take}
use Rattle.player.proofs.text.Text.put_hex.Goals as goal

pub loop-b-preserved : goal.loop-b-preserved
loop-b-preserved c =
    let high = c.digit.result in
    let low = c.digit-in-loop-b.result in
    let given = c.args.given.now in
    let i = c.loop-b.b-index in
    let digits = puts_then (high ∷ []) (low ∷ []) c.push.ensures c.push-in-loop-b.ensures in
    let all = puts_then (hex_of (take i given)) (high ∷ low ∷ []) c.loop-b.invariant.puts digits in
    record {
      puts = rw (hex_of-take given i (omega arith), ← c.digit.ensures, ← c.digit-in-loop-b.ensures) all;
      room = omega arith;
    }
