-- What is still to be taken makes the line what all makes of it.
use Rattle.std.proofs.Common.{◌≡◌, drop}
use Rattle.std.specs.List.{fold}
use Rattle.inspect.specs.Hex.{fed}
use Rattle.inspect.proofs.hex.Line.feed_all.Given as goal

abbrev pub invariant-loop-character : goal.invariant-loop-character
invariant-loop-character l = fold fed l.self (drop l.character-index l.characters) ≡ fold fed l.fn.self l.characters
