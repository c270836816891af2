-- An end that is Up 299 ticks after it last heard of its peer, where R is 300, as `SilentEndsFall` asks; and down a tick later.
use Rattle.std.specs.Prelude.{◌<◌, false, ◌≡◌}
use Rattle.judge.specs.Clock.{since_of}
use Rattle.rules.specs.declared.state.Life.TheVariants.{Idle, Up}
use Rattle.rules.specs.Claims.{answer_of}
use Rattle.run.specs.Run.{Sound}
use Rattle.run.specs.Events.{is_passed_by}
use Rattle.witness.specs.Ends.{initiator, tick}
use Rattle.witness.specs.Table.{next}
use Rattle.witness.specs.Initiator.{rising}

abbrev pub StaysUp : Type 0
StaysUp =
    let x = next initiator rising (tick 414) in
    let since = since_of (tick 414).at x.result.outcome.end.line.times.heard in
    Sound initiator × (is_passed_by initiator.role (tick 414).event ≡ false) × (answer_of x.result ≡ 2 → ⊥)
    × (answer_of x.result ≡ 14 → ⊥)
    × (x.result.outcome.end.life ≡ Up)
    × (since ≡ 299)
    × (since < initiator.settings.silence)

abbrev pub FallsSilent : Type 0
FallsSilent =
    let x = next initiator rising (tick 415) in
    (answer_of x.result ≡ 12) × (x.result.outcome.end.life ≡ Idle)
