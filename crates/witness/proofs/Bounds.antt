-- The runs, computed; what follows, by the claims.
use mathlib.Core.Path.{refl}
use lib.Dec.{lit<, lit≤}
use Rattle.judge.specs.Difference.{diff}
use Rattle.wire.specs.Message.{parse, encode, header_bytes}
use Rattle.rules.specs.Decide.{decide_of, on_event}
use Rattle.rules.specs.Perform.{performed}
use Rattle.rules.specs.Step.{effect_of, stepped}
use Rattle.run.specs.Run.{after, history}
use Rattle.history.specs.Timed.{RunsTrue, AtLeastEvery, time_of, looks, ticks}
use Rattle.history.proofs.Silence.{silence_ends}
use Rattle.history.proofs.Waiting.{start_ends}
use Rattle.history.proofs.Asking.{initiator_asks}
use Rattle.witness.specs.Ends.{initiator}
use Rattle.witness.specs.Bounds.{longest_silence, longest_start, longest_rest, unticked, StaysUpUnheard, HalfRangeIsTooLong, SilenceBoundIsReached, StartBoundIsReached, RetryBoundIsReached, RestBoundIsReached, FarTicksAreTooFar}

-- ---- silence

pub stays_up_unheard : StaysUpUnheard
unfolding after history time_of stepped effect_of performed decide_of on_event parse encode header_bytes diff
stays_up_unheard = ((refl, refl), ((((((((refl, lit≤ tt, refl), lit≤ tt, refl), lit≤ tt, refl), lit≤ tt, refl), lit≤ tt, refl), lit≤ tt, refl), lit≤ tt, refl), lit≤ tt, refl), refl, refl, lit< tt)

pub half_range_is_too_long : HalfRangeIsTooLong
unfolding after history time_of stepped effect_of performed decide_of on_event parse encode header_bytes diff
half_range_is_too_long = ((refl, refl), ((((((refl, lit≤ tt, refl), lit≤ tt, refl), lit≤ tt, refl), lit≤ tt, refl), lit≤ tt, refl), lit≤ tt, refl), ((((((tt, lit≤ tt), lit≤ tt), lit≤ tt), lit≤ tt), lit≤ tt), lit≤ tt), refl, refl, refl)

silence_true : RunsTrue initiator 100 longest_silence
silence_true = ((((((refl, lit≤ tt, refl), lit≤ tt, refl), lit≤ tt, refl), lit≤ tt, refl), lit≤ tt, refl), lit≤ tt, refl)

silence_often : AtLeastEvery 1_000 looks initiator 100 longest_silence
unfolding after history time_of stepped effect_of performed decide_of on_event parse encode header_bytes diff
silence_often = ((((((tt, lit≤ tt), lit≤ tt), lit≤ tt), lit≤ tt), lit≤ tt), lit≤ tt)

pub silence_bound_is_reached : SilenceBoundIsReached
unfolding after history time_of stepped effect_of performed decide_of on_event parse encode header_bytes diff
silence_bound_is_reached =
    let ends = silence_ends initiator (refl, refl) 100 1_000 longest_silence silence_true silence_often (lit< tt) refl in
    ((refl, refl), silence_true, silence_often, lit< tt, refl, refl, ends.1)

-- ---- waiting

start_true : RunsTrue initiator 100 longest_start
start_true = ((((refl, lit≤ tt, refl), lit≤ tt, refl), lit≤ tt, refl), lit≤ tt, refl)

start_often : AtLeastEvery 1_000 looks initiator 100 longest_start
unfolding after history time_of stepped effect_of performed decide_of on_event parse encode header_bytes diff
start_often = ((((tt, lit≤ tt), lit≤ tt), lit≤ tt), lit≤ tt)

pub start_bound_is_reached : StartBoundIsReached
unfolding after history time_of stepped effect_of performed decide_of on_event parse encode header_bytes diff
start_bound_is_reached =
    let ends = start_ends initiator (refl, refl) 100 1_000 longest_start start_true start_often (lit< tt) refl in
    ((refl, refl), start_true, start_often, lit< tt, refl, refl, ends.1)

retry_true : RunsTrue initiator 100 longest_rest
retry_true = (((((refl, lit≤ tt, refl), lit≤ tt, refl), lit≤ tt, refl), lit≤ tt, refl), lit≤ tt, refl)

retry_often : AtLeastEvery 1_000 ticks initiator 100 longest_rest
unfolding after history time_of stepped effect_of performed decide_of on_event parse encode header_bytes diff
retry_often = (((((tt, lit≤ tt), lit≤ tt), lit≤ tt), lit≤ tt), lit≤ tt)

pub retry_bound_is_reached : RetryBoundIsReached
unfolding after history time_of stepped effect_of performed decide_of on_event parse encode header_bytes diff
retry_bound_is_reached = (
  ((refl, refl), retry_true, retry_often, lit≤ tt, refl, refl),
  lit< tt,
  refl,
  initiator_asks initiator (refl, refl) 100 1_000 longest_rest retry_true retry_often (lit≤ tt) refl refl,
)

rest_true : RunsTrue initiator 100 unticked
rest_true = ((((((((((((refl, lit≤ tt, refl), lit≤ tt, refl), lit≤ tt, refl), lit≤ tt, refl), lit≤ tt, refl), lit≤ tt, refl), lit≤ tt, refl), lit≤ tt, refl), lit≤ tt, refl), lit≤ tt, refl), lit≤ tt, refl), lit≤ tt, refl)

rest_often : AtLeastEvery 1_000 ticks initiator 100 unticked
unfolding after history time_of stepped effect_of performed decide_of on_event parse encode header_bytes diff
rest_often = ((((((((((((tt, lit≤ tt), lit≤ tt), lit≤ tt), lit≤ tt), lit≤ tt), lit≤ tt), lit≤ tt), lit≤ tt), lit≤ tt), lit≤ tt), lit≤ tt), lit≤ tt)

pub rest_bound_is_reached : RestBoundIsReached
unfolding after history time_of stepped effect_of performed decide_of on_event parse encode header_bytes diff
rest_bound_is_reached = (
  ((refl, refl), rest_true, rest_often, lit≤ tt, refl, refl),
  refl,
  lit< tt,
  initiator_asks initiator (refl, refl) 100 1_000 unticked rest_true rest_often (lit≤ tt) refl refl,
)

pub far_ticks_are_too_far : FarTicksAreTooFar
unfolding after history time_of stepped effect_of performed decide_of on_event parse encode header_bytes diff
far_ticks_are_too_far = ((refl, refl), (((((refl, lit≤ tt, refl), lit≤ tt, refl), lit≤ tt, refl), lit≤ tt, refl), lit≤ tt, refl), (((((tt, lit≤ tt), lit≤ tt), lit≤ tt), lit≤ tt), lit≤ tt), refl, refl, lit< tt, refl)
