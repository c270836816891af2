-- The reports before a message or datum, and those after it: what `outputs_of` of the rules has on either side (proofs/Lines.antt).
use Rattle.std.specs.Prelude.{List, ◌++◌}
use Rattle.rules.specs.Outputs.{Output, reported}
use Rattle.rules.specs.Outputs.Output.{ask, accept, up, error, release, down}
use Rattle.rules.specs.declared.effect.Flags.{Flags}

abbrev pub earlier : Flags → List Output
earlier f = reported f.ask ask ++ reported f.accept accept

abbrev pub later : Flags → List Output
later f =
    reported f.up up ++ reported f.error error ++ reported f.release release ++ reported f.down down
