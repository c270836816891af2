-- No end is stuck: for one event by the tests of the rules, and every start in true time.
use mathlib.Core.Bool.{true, false, false≢true}
use mathlib.Core.List.{List}
use mathlib.Core.Path.{◌≡◌, refl, sym, ap, ◌∙◌}
use borrow.Author.Tests.{le-leb}
use Prim.Native.Nat.{ℕ}
use Rattle.judge.specs.Clock.{since_of}
use Rattle.judge.specs.declared.clock.Reading.{Reading}
use Rattle.rules.specs.Decide.{on_event}
use Rattle.rules.specs.Living.{overdue, overdue_in, may_ask, on_idle_tick}
use Rattle.rules.specs.Perform.{performed}
use Rattle.rules.specs.Speaking.{on_tick}
use Rattle.rules.specs.State.{phase_of}
use Rattle.rules.specs.Step.{effect_of, stepped}
use Rattle.rules.specs.declared.answer.Answer.TheVariants.{Silent}
use Rattle.rules.specs.declared.act.Event.{Event}
use Rattle.rules.specs.declared.act.Event.TheVariants.{Tick, Connect, Confirm, Disconnect, Data, Message}
use Rattle.rules.specs.declared.act.Act.TheVariants.{Move}
use Rattle.rules.specs.declared.act.ConnectionMove.TheVariants.{Ask, Fall}
use Rattle.rules.specs.declared.state.Role.{Role}
use Rattle.rules.specs.declared.state.Role.TheVariants.{Initiator}
use Rattle.rules.specs.declared.state.Life.{Life}
use Rattle.rules.specs.declared.state.Life.TheVariants.{Idle}
use Rattle.rules.specs.declared.state.Phase.{Phase}
use Rattle.rules.specs.declared.state.Phase.TheVariants.{Starting as starting}
use Rattle.rules.specs.declared.state.End.{End}
use Rattle.rules.proofs.Lives.{of_phase}
use Rattle.run.specs.Events.{is_indication}
use Rattle.history.specs.Waiting.{OverdueStartEnds, IdleTickAsks, StartEnds}
use Rattle.history.proofs.Reached.{reached}
use Rattle.history.proofs.Timed.{start_timer, fate_start, ends_in_time}

-- ---- one event

module _ (e : End) (at : Reading) (given : List ℕ) where
  falls : (event : Event) → is_indication event ≡ false → overdue e at ≡ true → on_event e event at given ≡ Move (Fall Silent false)
  unfolding on_event
  falls Tick is late = rw late
  falls Connect is late = absurd (false≢true (sym is))
  falls Confirm is late = rw late
  falls Disconnect is late = absurd (false≢true (sym is))
  falls Data is late = rw late
  falls Message is late = rw late

  asks : e.life ≡ Idle → e.role ≡ Initiator → may_ask e at ≡ true → on_event e Tick at given ≡ Move Ask
  unfolding on_event
  asks idle role may =
      let timely : overdue e at ≡ false = ap (λ (l : Life). overdue_in (phase_of l) e at) idle in
      let ask : on_idle_tick Initiator e at ≡ Move Ask = rw may in
      rw timely (ap (λ (l : Life). on_tick (phase_of l) e at) idle ∙ ap (λ (r : Role). on_idle_tick r e at) role ∙ ask)

pub overdue_start_ends : OverdueStartEnds
unfolding stepped effect_of performed
overdue_start_ends e event at given out q phase other taking long =
    let late = ap (λ (p : Phase). overdue_in p e at) phase ∙ le-leb e.settings.wait (since_of at e.line.began) long in
    rw (reached e event at given out taking ∙ falls e at given event other late) (refl, refl, refl)

pub idle_tick_asks : IdleTickAsks
unfolding stepped effect_of performed
idle_tick_asks e at given out q idle role taking may =
    rw (reached e Tick at given out taking ∙ asks e at given idle role may) (refl, refl, refl)

-- ---- a start in true time

pub start_ends : StartEnds
start_ends m sound start g xs clock often small phase =
    ends_in_time start_timer fate_start (λ z. of_phase Idle Idle starting z refl refl) m sound start g small xs clock often phase
