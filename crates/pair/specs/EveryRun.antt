-- What it means to claim something of every run. Each claim is a type, and has its proof in proofs/Sides.antt or proofs/Claims.antt.
use Rattle.std.specs.Prelude.{List}
use Rattle.pair.specs.World.{Side, World}
use Rattle.pair.specs.Run.{Beginning, SoundBeginning, Move, Run, after}

abbrev pub EveryRun : (World → Type 0) → Type 0
EveryRun P = (b : Beginning) → SoundBeginning b → (ms : List Move) → Run b ms → P (after b ms)

-- of what goes from either side to the other
abbrev pub BothWays : (World → Side → Side → Type 0) → World → Type 0
BothWays P w = P w w.left w.right × P w w.right w.left
