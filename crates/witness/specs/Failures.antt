-- An end bears one failure where its limit is two: what `FailuresBelowLimit` asks, and more cannot be said.
use Rattle.std.specs.Prelude.{◌<◌, ◌≡◌}
use Rattle.run.specs.Run.{Sound}
use Rattle.history.specs.Seen.{seen}
use Rattle.history.specs.Failures.{failure_count}
use Rattle.witness.specs.Ends.{initiator}
use Rattle.witness.specs.Table.{ran}
use Rattle.witness.specs.Initiator.{until_full, until_late}

-- in this run two messages failed, one before and one after a delivery: the count is 1, E is 2, and 1 is the most there can be
abbrev pub OneFailureStands : Type 0
OneFailureStands =
    Sound initiator × (initiator.settings.errors ≡ 2) × (failure_count (seen (ran initiator until_full)) ≡ 0)
    × (failure_count (seen (ran initiator until_late)) ≡ 1)
    × (failure_count (seen (ran initiator until_late)) < initiator.settings.errors)
