-- What a tick and the user's data come to.
use Rattle.std.specs.Prelude.{ℕ, Bool, cond, ◌&&◌, leb, ltb, eqb}
use Rattle.judge.specs.Clock.{passed_of}
use Rattle.judge.specs.declared.clock.Reading.{Reading}
use Rattle.queue.specs.Ring.{places, waiting_in}
use Rattle.wire.specs.Message.{longest}
use Rattle.rules.specs.Living.{on_idle_tick}
use Rattle.rules.specs.declared.answer.Answer.TheVariants.{Handled, NoRule, BadLength, QueueFull}
use Rattle.rules.specs.declared.act.Act.{Act}
use Rattle.rules.specs.declared.act.Act.TheVariants.{Note, Say}
use Rattle.rules.specs.declared.act.Speech.TheVariants.{Quiet, Beat, Speak, Drain, Hold}
use Rattle.rules.specs.declared.state.Phase.{Phase}
use Rattle.rules.specs.declared.state.Phase.TheVariants.{Idle as resting, Starting as starting, Up as up}
use Rattle.rules.specs.declared.state.End.{End}

-- S ticks have passed since the last kind 6 went
abbrev pub life_sign_due : End → Reading → Bool
life_sign_due e at = passed_of at e.line.times.said e.settings.life_sign

-- the oldest that waits, or a life sign after S ticks, or nothing
abbrev pub on_up_tick : End → Reading → Act
on_up_tick e at =
    cond (eqb (waiting_in e.ring) 0) (cond (life_sign_due e at) (Say Beat) (Say Quiet)) (Say Drain)

-- user data have 1 to `longest` bytes
abbrev pub sendable : ℕ → Bool
sendable n = leb 1 n && leb n longest

-- at once, if no kind 6 has gone since the last tick
abbrev pub on_up_data : End → ℕ → Act
on_up_data e n =
    cond (sendable n)
    (cond e.line.busy (cond (ltb (waiting_in e.ring) places) (Say Hold) (Note QueueFull)) (Say Speak))
    (Note BadLength)

abbrev pub on_tick : Phase → End → Reading → Act
on_tick resting e at = on_idle_tick e.role e at
on_tick starting e at = Note Handled
on_tick up e at = on_up_tick e at

abbrev pub on_data : Phase → End → ℕ → Act
on_data resting e n = Note NoRule
on_data starting e n = Note NoRule
on_data up e n = on_up_data e n
