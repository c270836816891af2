-- Limits and asking: the ends computed, and what follows by the claims.
use mathlib.Core.List.{[]}
use mathlib.Core.Path.{refl}
use lib.Dec.{lit<, lit≤}
use borrow.Author.Tests.{eqb-false}
use Rattle.judge.specs.Difference.{diff}
use Rattle.wire.specs.Message.{parse, encode, header_bytes}
use Rattle.rules.specs.Decide.{decide_of, on_event}
use Rattle.rules.specs.declared.act.Event.TheVariants.{Tick, Message}
use Rattle.rules.specs.Perform.{performed}
use Rattle.rules.specs.Step.{effect_of, stepped}
use Rattle.run.specs.Run.{after}
use Rattle.history.specs.Delivery.{IsTaken}
use Rattle.history.proofs.Silence.{silent_ends_fall}
use Rattle.history.proofs.Waiting.{overdue_start_ends, idle_tick_asks}
use Rattle.witness.specs.Ends.{initiator, reading, roomy, tick, bare}
use Rattle.witness.specs.Table.{calls_in}
use Rattle.witness.specs.Initiator.{rising}
use Rattle.witness.specs.Silence.{StaysUp, FallsSilent}
use Rattle.witness.specs.Waiting.{opening, refused, OverdueAtTick, OverdueAtMessage, AsksAtOnce, AsksAgain}

pub stays_up : StaysUp
unfolding after stepped effect_of performed decide_of on_event parse encode header_bytes diff
stays_up = (
  (refl, refl),
  refl,
  eqb-false 0 2 refl,
  eqb-false 0 14 refl,
  refl,
  refl,
  silent_ends_fall initiator (refl, refl) (calls_in rising) (tick 414) refl (eqb-false 0 2 refl) (eqb-false 0 14 refl) refl,
)

pub falls_silent_lem : FallsSilent
unfolding after stepped effect_of performed decide_of on_event parse encode header_bytes diff
falls_silent_lem = (refl, refl)

opening_takes : IsTaken opening (reading 603) roomy
unfolding after stepped effect_of performed decide_of on_event encode header_bytes diff
opening_takes = record { room = lit≤ tt; forth = lit< tt }

pub overdue_at_tick : OverdueAtTick
unfolding after stepped effect_of performed decide_of on_event encode header_bytes diff
overdue_at_tick = (
  refl,
  refl,
  opening_takes,
  lit≤ tt,
  overdue_start_ends opening Tick (reading 603) [] roomy initiator.queue refl refl opening_takes (lit≤ tt),
)

pub overdue_at_message : OverdueAtMessage
unfolding after stepped effect_of performed decide_of on_event encode header_bytes diff
overdue_at_message = (
  refl,
  refl,
  opening_takes,
  lit≤ tt,
  overdue_start_ends opening Message (reading 603) (bare 2 0 50 103 50) roomy initiator.queue refl refl opening_takes (lit≤ tt),
)

fresh_takes : IsTaken (after initiator []).end (reading 100) roomy
unfolding after diff
fresh_takes = record { room = lit≤ tt; forth = lit< tt }

pub asks_at_once_lem : AsksAtOnce
unfolding after
asks_at_once_lem = (
  refl,
  refl,
  fresh_takes,
  refl,
  idle_tick_asks (after initiator []).end (reading 100) [] roomy initiator.queue refl refl fresh_takes refl,
)

refused_takes : IsTaken refused (reading 1_100) roomy
unfolding after stepped effect_of performed decide_of on_event encode header_bytes diff
refused_takes = record { room = lit≤ tt; forth = lit< tt }

pub asks_again : AsksAgain
unfolding after stepped effect_of performed decide_of on_event encode header_bytes diff
asks_again = (
  refl,
  (
    refl,
    refl,
    refused_takes,
    refl,
    idle_tick_asks refused (reading 1_100) [] roomy initiator.queue refl refl refused_takes refl,
  ),
)
