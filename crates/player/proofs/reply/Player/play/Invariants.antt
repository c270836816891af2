-- What was played so far, and what is left, are the whole.
use Rattle.std.proofs.Common.{length}
use Rattle.player.proofs.Remaining.{Going}
use Rattle.player.proofs.reply.Player.play.Given as goal

abbrev pub invariant-loop-self : goal.invariant-loop-self
invariant-loop-self l = Going l.last l.fn.self l.s l.self l.rest

abbrev pub decreases-loop-self : goal.decreases-loop-self
decreases-loop-self l = length l.rest
