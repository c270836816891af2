-- The life of a connection: how long a state may last, and what indications, confirms and an Idle end's ticks come to.
use Rattle.std.specs.Prelude.{Bool, false, cond, ◌||◌}
use Rattle.judge.specs.Clock.{passed_of}
use Rattle.judge.specs.declared.clock.Reading.{Reading}
use Rattle.wire.specs.declared.message.Body.TheVariants.{OffsetStart}
use Rattle.rules.specs.State.{phase_of}
use Rattle.rules.specs.declared.answer.Answer.TheVariants.{Handled, NoRule, Silent}
use Rattle.rules.specs.declared.act.Act.{Act}
use Rattle.rules.specs.declared.act.Act.TheVariants.{Note, Move, Start}
use Rattle.rules.specs.declared.act.ConnectionMove.TheVariants.{Ask, Accept, Lose, Fall}
use Rattle.rules.specs.declared.act.Exchange.TheVariants.{Begin}
use Rattle.rules.specs.declared.state.Role.{Role}
use Rattle.rules.specs.declared.state.Role.TheVariants.{Initiator, Called}
use Rattle.rules.specs.declared.state.Life.{Life}
use Rattle.rules.specs.declared.state.Life.TheVariants.{Idle, Calling, Opening, Settling, Greeted, Answering, Closing, Up}
use Rattle.rules.specs.declared.state.Phase.{Phase}
use Rattle.rules.specs.declared.state.Phase.TheVariants.{Idle as resting, Starting as starting, Up as up}
use Rattle.rules.specs.declared.state.End.{End}

-- the silence limit while Up, and the start wait in a starting state
abbrev pub overdue_in : Phase → End → Reading → Bool
overdue_in resting e at = false
overdue_in starting e at = passed_of at e.line.began e.settings.wait
overdue_in up e at = passed_of at e.line.times.heard e.settings.silence

abbrev pub overdue : End → Reading → Bool
overdue e at = overdue_in (phase_of e.life) e at

abbrev pub falls_silent : Act
falls_silent = Move (Fall Silent false)

-- what is judged only while the end is not overdue
abbrev pub in_time : End → Reading → Act → Act
in_time e at act = cond (overdue e at) falls_silent act

abbrev pub on_connect : Role → Act
on_connect Initiator = Note NoRule
on_connect Called = Move Accept

abbrev pub on_disconnect : Phase → Act
on_disconnect resting = Note NoRule
on_disconnect starting = Move Lose
on_disconnect up = Move Lose

abbrev pub on_confirm : Life → Act
on_confirm Idle = Note NoRule
on_confirm Calling = Start (Begin OffsetStart)
on_confirm Opening = Note NoRule
on_confirm Settling = Note NoRule
on_confirm Greeted = Note NoRule
on_confirm Answering = Note NoRule
on_confirm Closing = Note NoRule
on_confirm Up = Note NoRule

-- it may ask at once, or C ticks have passed since it last asked
abbrev pub may_ask : End → Reading → Bool
may_ask e at = e.asking.at_once || passed_of at e.asking.when e.settings.retry

abbrev pub on_idle_tick : Role → End → Reading → Act
on_idle_tick Initiator e at = cond (may_ask e at) (Move Ask) (Note Handled)
on_idle_tick Called e at = Note Handled
