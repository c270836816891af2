-- What comes in with an event: a message that is accepted, user data that are handed in, a confirm that is handled.
use Prim.Native.Nat.{ℕ}
use native.Mathlib.Omega.{arith}
use mathlib.Core.Bool.{Bool, true, false, ◌&&◌}
use mathlib.Core.List.{List}
use mathlib.Core.Path.{◌≡◌, refl, sym, ap, subst, ◌∙◌}
use borrow.Author.Tests.{ne_eqb}
use lib.Dec.{eqb}
use Rattle.judge.specs.declared.clock.Reading.{Reading}
use Rattle.wire.proofs.Tests.{by_test}
use Rattle.rules.specs.Answers.{number_of}
use Rattle.rules.specs.Talking.{delivered_answer}
use Rattle.rules.specs.declared.answer.Answer.{Answer}
use Rattle.rules.specs.declared.act.Event.{Event}
use Rattle.rules.specs.declared.state.End.{End}
use Rattle.rules.proofs.Grounds.{NoteGrounds, Failure, Fallen, StayGrounds}
use Rattle.rules.proofs.Grounds.Failure.{is_old, is_late}
use Rattle.rules.proofs.Grounds.Fallen.{by_silence, by_start, by_loss, by_failure}
use Rattle.rules.proofs.Grounds.StayGrounds.{no_room, went_back}
use Rattle.run.specs.Events.{is_confirm, is_message, is_data, is_yes, is_acceptance, is_delivery, is_handed_in}
use Rattle.run.proofs.Choices.{and-false, or-false}
use Rattle.run.proofs.Noted.{Sort, note_sort, sort_unheard, sort_unsaid}
use Rattle.run.proofs.Noted.Sort.{a_tick, a_refusal}

abbrev pub Brings : Event → ℕ → Bool → Bool → Bool → Type 0
Brings event n message datum confirm =
    (is_acceptance event n ≡ message) × (is_handed_in event n ≡ datum) × (is_confirm event && eqb n 0 ≡ confirm)

-- an event that is known brings what it brings
pub known_brings : (event what : Event) (n : ℕ) (m d c : Bool) → event ≡ what → Brings what n m d c → Brings event n m d c
known_brings event what n m d c comes so = subst (λ (v : Event). Brings v n m d c) (sym comes) so

-- with an answer other than 0 and 13 nothing comes in
pub refused_brings : (event : Event) (n : ℕ) → is_yes n ≡ false → Brings event n false false false
refused_brings event n refused =
    let zero' = (or-false (eqb n 0) (eqb n 13) refused).0 in (
      ap (λ (t : Bool). is_message event && t) refused ∙ and-false (is_message event),
      ap (λ (t : Bool). is_data event && t) zero' ∙ and-false (is_data event),
      ap (λ (t : Bool). is_confirm event && t) zero' ∙ and-false (is_confirm event),
    )

-- what is not accepted is not delivered
pub no_delivery : (up : Bool) (event : Event) (n : ℕ) → is_acceptance event n ≡ false → is_delivery up event n ≡ false
no_delivery up event n none = ap (λ (t : Bool). up && t) none ∙ and-false up

-- a delivery is answered 0 or 13
pub delivered_yes : (gap : Bool) → is_yes (number_of (delivered_answer gap)) ≡ true
delivered_yes gap = by_test (λ (a : Answer). is_yes (number_of a) ≡ true) gap (λ _. refl) (λ _. refl)

module _ (e : End) (event : Event) (at : Reading) (b : List ℕ) where
  abbrev IsRefused : Answer → Type 0
  IsRefused a = is_yes (number_of a) ≡ false

  pub stay_refused : (room : ℕ) (a : Answer) → StayGrounds e event at b room a → IsRefused a
  stay_refused room a (no_room is short) = ap (λ (x : Answer). is_yes (number_of x)) is
  stay_refused room a (went_back is fits back) = ap (λ (x : Answer). is_yes (number_of x)) is

  pub failure_refused : (a : Answer) → Failure e event at b a → IsRefused a
  failure_refused a (is_old h train is hears class) = ap (λ (x : Answer). is_yes (number_of x)) is
  failure_refused a (is_late h train is hears near stale) = ap (λ (x : Answer). is_yes (number_of x)) is

  pub fall_refused : (a : Answer) (error : Bool) → Fallen e event at b a error → IsRefused a
  fall_refused a error (by_silence is quiet over alive sort) = ap (λ (x : Answer). is_yes (number_of x)) is
  fall_refused a error (by_start life h body is quiet low next kind wrong) = ap (λ (x : Answer). is_yes (number_of x)) is
  fall_refused a error (by_loss h train is quiet hears class) = ap (λ (x : Answer). is_yes (number_of x)) is
  fall_refused a error (by_failure loud why full) = failure_refused a why

  -- nor with an event that is only noted
  pub note_brings : (a : Answer) → NoteGrounds e event at b a → Brings event (number_of a) false false false
  note_brings a g =
      let sort = note_sort e event at b a g in
      (sort_unheard e event at b (number_of a) sort, sort_unsaid e event at b (number_of a) sort, go sort)
    where
      go : Sort e event at (number_of a) → is_confirm event && eqb (number_of a) 0 ≡ false
      go (a_tick is timely low early zero') = ap (λ (v : Event). is_confirm v && eqb (number_of a) 0) is
      go (a_refusal what is other why low high) =
          ap (λ (t : Bool). is_confirm event && t) (ne_eqb (number_of a) 0 (λ z. omega arith)) ∙ and-false (is_confirm event)
