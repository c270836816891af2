-- An end comes Up, goes down, and does both again, as `UpAndDownAlternate` and `UpAsReported` have it;
-- data reach the user in turn and after a gap, as `DataOnlyAccepted` asks.
use Rattle.std.specs.Prelude.{true, false, List, [], ◌∷◌, ◌++◌, ◌≡◌}
use Rattle.run.specs.Events.{is_yes, is_datum_at}
use Rattle.history.specs.Seen.{seen, seen_of, number_in, stands_up}
use Rattle.history.specs.Reports.{Sign, trace}
use Rattle.history.specs.Reports.Sign.{answer, output}
use Rattle.rules.specs.Outputs.{Output}
use Rattle.rules.specs.Outputs.Output.{ask, accept, send, datum, up, error, release, down}
use Rattle.witness.specs.Ends.{initiator}
use Rattle.witness.specs.Table.{ran, next}
use Rattle.witness.specs.Initiator.{rising, in_turn, until_heard, gapped, until_late, until_down, until_up_again, long_run}

abbrev pub up_or_down : Output → List Output
up_or_down ask = []
up_or_down accept = []
up_or_down (send s) = []
up_or_down (datum s) = []
up_or_down up = up ∷ []
up_or_down error = []
up_or_down release = []
up_or_down down = down ∷ []

abbrev pub ups_and_downs : List Sign → List Output
ups_and_downs [] = []
ups_and_downs (answer a ∷ ss) = ups_and_downs ss
ups_and_downs (output o ∷ ss) = up_or_down o ++ ups_and_downs ss

abbrev pub UpsAndDowns : Type 0
UpsAndDowns = ups_and_downs (trace (seen (ran initiator long_run))) ≡ up ∷ down ∷ up ∷ down ∷ []

abbrev pub StandsUpTwice : Type 0
StandsUpTwice =
    (stands_up (seen (ran initiator until_late)) ≡ true)
    × (stands_up (seen (ran initiator until_down)) ≡ false)
    × (stands_up (seen (ran initiator until_up_again)) ≡ true)

-- data go to the user, with the answer 0
abbrev pub DataInTurn : Type 0
DataInTurn =
    let x = seen_of (next initiator rising in_turn) in
    (is_datum_at x.front ≡ true) × (number_in x ≡ 0) × (is_yes (number_in x) ≡ true)

-- and with the answer 13, and an error report
abbrev pub DataAfterGap : Type 0
DataAfterGap =
    let x = seen_of (next initiator until_heard gapped) in
    (is_datum_at x.front ≡ true) × (number_in x ≡ 13) × (x.flags.error ≡ true) × (is_yes (number_in x) ≡ true)
