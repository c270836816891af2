-- What is to be placed can be placed: the grounds of an act say enough of the bytes that came with its event.
use Prim.Native.Nat.{ℕ, ◌≤◌}
use mathlib.Core.Bool.{Bool, true, false}
use mathlib.Core.List.{List, []}
use mathlib.Core.Path.{refl, ap}
use Rattle.judge.specs.declared.clock.Reading.{Reading}
use Rattle.wire.proofs.Carrying.{carried_is}
use Rattle.wire.proofs.Parsing.{reads_carried}
use Rattle.wire.specs.Message.{train_in}
use Rattle.wire.specs.Writing.{carries}
use Rattle.wire.specs.declared.message.Body.{Body}
use Rattle.wire.specs.declared.message.Header.{Header}
use Rattle.rules.specs.Decide.{least_room}
use Rattle.rules.specs.declared.act.Event.{Event}
use Rattle.rules.specs.declared.act.Act.{Act}
use Rattle.rules.specs.declared.act.Act.TheVariants.{Stay, Move, Start, Hear, Say}
use Rattle.rules.specs.declared.act.Swap.{Swap}
use Rattle.rules.specs.declared.act.Measurement.{Measurement}
use Rattle.rules.specs.declared.act.ConnectionMove.{ConnectionMove}
use Rattle.rules.specs.declared.act.ConnectionMove.TheVariants.{Ask, Accept, Lose, Fall}
use Rattle.rules.specs.declared.act.Exchange.{Exchange}
use Rattle.rules.specs.declared.act.Exchange.TheVariants.{Begin, Greet, Measure, Estimate, Finish, Rise}
use Rattle.rules.specs.declared.act.Verdict.{Verdict}
use Rattle.rules.specs.declared.act.Verdict.TheVariants.{Deliver, Report}
use Rattle.rules.specs.declared.act.Speech.{Speech}
use Rattle.rules.specs.declared.act.Speech.TheVariants.{Quiet, Beat, Speak, Drain, Hold}
use Rattle.rules.specs.declared.state.Life.TheVariants.{Up}
use Rattle.rules.specs.declared.state.End.{End}
use Rattle.rules.specs.Perform.{performed}
use Rattle.rules.specs.Place.{Ready}
use Rattle.rules.specs.Step.{effect_of}
use Rattle.rules.specs.Talking.{delivering}
use Rattle.rules.proofs.Grounds.{IsTaken, Heard, ExchangeGrounds, VerdictGrounds, SpeechGrounds, body_of}
use Rattle.rules.proofs.Acts.{EachTaken, by_act}

module _ (e : End) (event : Event) (at : Reading) (b : List ℕ) (room : ℕ) where
  abbrev ReadyFor : Act → Type 0
  ReadyFor act = Ready (performed e act at).placing b room

  move_ready : (m : ConnectionMove) → ReadyFor (Move m)
  unfolding performed
  move_ready Ask = tt
  move_ready Accept = tt
  move_ready Lose = tt
  move_ready (Fall answer error) = tt

  start_ready : (x : Exchange) → least_room ≤ room → ExchangeGrounds e event at b x → ReadyFor (Start x)
  unfolding performed
  start_ready (Begin goes) fits g = (ap (λ (x : Body). carries x []) g.2, fits)
  start_ready (Greet s) fits g = (ap (λ (x : Swap). carries x.goes []) g.1, fits)
  start_ready (Measure m) fits g = (ap (λ (x : Measurement). carries x.swap.goes []) g.1, fits)
  start_ready (Estimate m) fits g = (ap (λ (x : Measurement). carries x.swap.goes []) g.1, fits)
  start_ready (Finish s) fits g = (ap (λ (x : Swap). carries x.goes []) g.3, fits)
  start_ready (Rise h) fits g = tt

  delivery_ready : (h : Header) (train : Bool) → least_room ≤ room → Heard e event at b Up h (body_of e event at b train)
      → Ready (delivering train) b room
  delivery_ready h true fits hears = ((carried_is (train_in b) (reads_carried b _ hears.reads)).1, fits)
  delivery_ready h false fits hears = tt

  hear_ready : (v : Verdict) → least_room ≤ room → VerdictGrounds e event at b v → ReadyFor (Hear v)
  unfolding performed
  hear_ready (Deliver d) fits g = delivery_ready d.header d.train fits g.0
  hear_ready (Report answer failures) fits g = tt

  say_ready : (s : Speech) → least_room ≤ room → SpeechGrounds e event at b s → ReadyFor (Say s)
  unfolding performed
  say_ready Quiet fits g = tt
  say_ready Beat fits g = (refl, fits)
  say_ready Speak fits g = (g.1, fits)
  say_ready Drain fits g = (refl, fits)
  say_ready Hold fits g = tt

  each_ready : IsTaken e event at b room → EachTaken e event at b ReadyFor
  unfolding performed
  each_ready t =
      record {
        notes = λ a g. tt;
        moves = λ m g. move_ready m;
        starts = λ x g. start_ready x t.fits g;
        hears = λ v g. hear_ready v t.fits g;
        says = λ s g. say_ready s t.fits g;
      }

  stay_ready : (a : _) → ReadyFor (Stay a)
  unfolding performed
  stay_ready a = tt

pub effect_ready : (e : End) (event : Event) (at : Reading) (b : List ℕ) (room : ℕ) → Ready (effect_of e event at b room).placing b room
unfolding effect_of
effect_ready e event at b room =
    by_act e event at b room (ReadyFor e event at b room) (λ a g. stay_ready e event at b room a) (each_ready e event at b room)
