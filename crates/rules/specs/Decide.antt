-- What an event comes to: only tests, in the order of the answers.
use Rattle.std.specs.Prelude.{ℕ, ◌+◌, cond, List, ltb, length}
use Rattle.judge.specs.Clock.{back_of}
use Rattle.judge.specs.declared.clock.Reading.{Reading}
use Rattle.wire.specs.Message.{longest, parse}
use Rattle.rules.specs.State.{phase_of}
use Rattle.rules.specs.Living.{in_time, on_connect, on_disconnect, on_confirm}
use Rattle.rules.specs.Hearing.{on_message}
use Rattle.rules.specs.Speaking.{on_tick, on_data}
use Rattle.rules.specs.declared.answer.Answer.TheVariants.{ClockBack, NoRoom}
use Rattle.rules.specs.declared.act.Event.{Event}
use Rattle.rules.specs.declared.act.Event.TheVariants.{Tick, Connect, Confirm, Disconnect, Data, Message}
use Rattle.rules.specs.declared.act.Act.{Act}
use Rattle.rules.specs.declared.act.Act.TheVariants.{Stay}
use Rattle.rules.specs.declared.state.End.{End}

-- room for the longest message
abbrev pub least_room : ℕ
least_room = 16 + longest

unfoldable pub on_event : End → Event → Reading → List ℕ → Act
on_event e Tick at bytes = in_time e at (on_tick (phase_of e.life) e at)
on_event e Connect at bytes = on_connect e.role
on_event e Confirm at bytes = in_time e at (on_confirm e.life)
on_event e Disconnect at bytes = on_disconnect (phase_of e.life)
on_event e Data at bytes = in_time e at (on_data (phase_of e.life) e (length bytes))
on_event e Message at bytes = in_time e at (on_message e at (parse bytes))

unfoldable pub decide_of : End → Event → Reading → List ℕ → ℕ → Act
unfolding on_event
decide_of e event at bytes room =
    cond (ltb room least_room) (Stay NoRoom) (cond (back_of at e.reading) (Stay ClockBack) (on_event e event at bytes))
