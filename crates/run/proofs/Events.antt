-- Laws of the words for one event: what a test on it says.
use Prim.Native.Nat.{ℕ}
use mathlib.Core.Bool.{true, and-eq-true_iff, false≢true}
use mathlib.Core.Path.{◌≡◌, refl, ap₂, ◌∙◌}
use Rattle.rules.specs.State.{is_up}
use Rattle.rules.specs.declared.act.Event.{Event}
use Rattle.rules.specs.declared.act.Event.TheVariants.{Tick, Connect, Confirm, Disconnect, Data, Message}
use Rattle.rules.specs.declared.state.Life.{Life}
use Rattle.rules.specs.declared.state.Life.TheVariants.{Up}
use Rattle.rules.proofs.Lives.{only_up}
use Rattle.run.specs.Events.{is_tick, is_message, is_data, is_yes, is_acceptance, is_delivery}

pub tick_is : (event : Event) → is_tick event ≡ true → event ≡ Tick
tick_is Tick is = refl
tick_is Connect is = absurd (false≢true is)
tick_is Confirm is = absurd (false≢true is)
tick_is Disconnect is = absurd (false≢true is)
tick_is Data is = absurd (false≢true is)
tick_is Message is = absurd (false≢true is)

pub message_is : (event : Event) → is_message event ≡ true → event ≡ Message
message_is Tick is = absurd (false≢true is)
message_is Connect is = absurd (false≢true is)
message_is Confirm is = absurd (false≢true is)
message_is Disconnect is = absurd (false≢true is)
message_is Data is = absurd (false≢true is)
message_is Message is = refl

pub data_is : (event : Event) → is_data event ≡ true → event ≡ Data
data_is Tick is = absurd (false≢true is)
data_is Connect is = absurd (false≢true is)
data_is Confirm is = absurd (false≢true is)
data_is Disconnect is = absurd (false≢true is)
data_is Data is = refl
data_is Message is = absurd (false≢true is)

module _ (event : Event) (l : Life) (n : ℕ) where
  pub is_delivery_lem : event ≡ Message → l ≡ Up → is_yes n ≡ true → is_delivery (is_up l) event n ≡ true
  is_delivery_lem comes up good = ap₂ (λ (v : Event) (x : Life). is_delivery (is_up x) v n) comes up ∙ good

  pub delivery_is : is_delivery (is_up l) event n ≡ true → (event ≡ Message) × (l ≡ Up) × (is_yes n ≡ true)
  delivery_is is =
      let both = (and-eq-true_iff (is_up l) (is_acceptance event n)).0 is in
      let rest = (and-eq-true_iff (is_message event) (is_yes n)).0 both.1 in
      (message_is event rest.0, only_up l both.0, rest.1)
