use Rattle.std.proofs.Common.{◌≤◌}
use Rattle.receive.proofs.main.Given as goal

abbrev pub invariant-loop-turn : goal.invariant-loop-turn
invariant-loop-turn l = l.delivered ≤ l.turn
