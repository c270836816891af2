-- One event, whole: decide, perform, place.
use Rattle.std.specs.Prelude.{List, ℕ, length}
use Rattle.judge.specs.declared.clock.Reading.{Reading}
use Rattle.rules.specs.Decide.{decide_of}
use Rattle.rules.specs.declared.act.Event.{Event}
use Rattle.rules.specs.declared.state.End.{End}
use Rattle.rules.specs.Perform.{performed}
use Rattle.rules.specs.Place.{out_after, queue_after, front_after}
use Rattle.rules.specs.declared.effect.Effect.{Effect}
use Rattle.rules.specs.declared.effect.Outcome.{Outcome}

-- the outcome, and every byte of the lent output and of the queue afterwards
pub record Result : Type 0 where
  pub outcome : Outcome
  pub out : List ℕ
  pub queue : List ℕ

-- an effect with its bytes placed
abbrev pub result_of : Effect → List ℕ → List ℕ → List ℕ → Result
result_of f bytes out q =
    record {
      outcome = record { end = f.end; front = front_after f.placing bytes q; flags = f.flags; answer = f.answer };
      out = out_after f.placing bytes q out;
      queue = queue_after f.placing bytes q;
    }

unfoldable pub effect_of : End → Event → Reading → List ℕ → ℕ → Effect
effect_of e event at bytes room = performed e (decide_of e event at bytes room) at

unfoldable pub stepped : End → Event → Reading → List ℕ → List ℕ → List ℕ → Result
unfolding effect_of
stepped e event at bytes out q = result_of (effect_of e event at bytes (length out)) bytes out q
