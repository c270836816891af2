-- The messages of the clock start.
use Rattle.std.specs.Prelude.{Bool, false, cond, ◌&&◌}
use Rattle.judge.specs.Clock.{same_of, opposed_of, offsets_by, narrow_of}
use Rattle.judge.specs.Sequence.{next_of}
use Rattle.judge.specs.declared.clock.Reading.{Reading}
use Rattle.judge.specs.declared.clock.Offset.{Offset}
use Rattle.judge.specs.declared.clock.Offsets.{Offsets}
use Rattle.wire.specs.declared.message.Header.{Header}
use Rattle.wire.specs.declared.message.Body.{Body}
use Rattle.wire.specs.declared.message.Body.TheVariants.{OffsetAnsw1, OffsetAnsw2, OffsetEst, OffsetEnd}
use Rattle.rules.specs.declared.answer.Answer.TheVariants.{NotAwaited, StartFailed}
use Rattle.rules.specs.declared.act.Act.{Act}
use Rattle.rules.specs.declared.act.Act.TheVariants.{Note, Move, Start}
use Rattle.rules.specs.declared.act.ConnectionMove.TheVariants.{Fall}
use Rattle.rules.specs.declared.act.Exchange.TheVariants.{Greet, Measure, Estimate, Finish, Rise}
use Rattle.rules.specs.declared.act.Swap.{Swap}
use Rattle.rules.specs.declared.act.Measurement.{Measurement}
use Rattle.rules.specs.declared.state.End.{End}

-- the number of a message is the next one
abbrev pub next_for : End → Header → Bool
next_for e h = next_of h.number e.line.numbers.last

-- a starting message must be the next one
abbrev pub in_turn : End → Header → Act → Act
in_turn e h act = cond (next_for e h) act (Note NotAwaited)

abbrev pub start_fails : Act
start_fails = Move (Fall StartFailed false)

-- the pair that a message gives when it comes
abbrev pub offsets_from : Header → Reading → Offsets
offsets_from h at = offsets_by h.stamps at

-- the echo is what was sent, and the spread is at most W
abbrev pub measures : End → Reading → Header → Bool
measures e at h =
    same_of h.stamps.echo e.line.offsets.since && narrow_of (offsets_from h at) e.settings.spread

abbrev pub swap_of : Header → Body → Swap
swap_of h body = record { came = h; goes = body }

abbrev pub measurement_of : Header → Reading → Body → Measurement
measurement_of h at body = record { swap = swap_of h body; offsets = offsets_from h at }

-- kind 4 tells the peer the pair
abbrev pub estimate_of : Offsets → Body
estimate_of pair = OffsetEst pair.minimum pair.maximum

abbrev pub on_start : Header → Act
on_start h = Start (Greet (swap_of h OffsetAnsw1))

abbrev pub on_answer1 : End → Reading → Header → Act
on_answer1 e at h = cond (measures e at h) (Start (Measure (measurement_of h at OffsetAnsw2))) start_fails

abbrev pub on_answer2 : End → Reading → Header → Act
on_answer2 e at h =
    cond (measures e at h) (Start (Estimate (measurement_of h at (estimate_of (offsets_from h at))))) start_fails

-- the peer's minimum must be 0 less the own maximum
abbrev pub on_estimate : End → Header → Offset → Act
on_estimate e h minimum =
    cond (opposed_of minimum e.line.offsets.maximum) (Start (Finish (swap_of h OffsetEnd))) start_fails

abbrev pub on_end : Header → Act
on_end h = Start (Rise h)
