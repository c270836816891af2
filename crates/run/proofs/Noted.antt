-- What an event that is only noted was.
use Prim.Native.Nat.{ℕ, ◌≤◌}
use native.Mathlib.Omega.{arith}
use mathlib.Core.Bool.{Bool, true, false, ◌&&◌, ◌||◌}
use mathlib.Core.List.{List}
use mathlib.Core.Logic.{◌⊎◌, inl, inr}
use mathlib.Core.Path.{◌≡◌, refl, sym, ap, ap₂, subst, ◌∙◌}
use borrow.Author.Tests.{ne_eqb}
use Rattle.judge.specs.declared.clock.Reading.{Reading}
use Rattle.rules.specs.Answers.{number_of}
use Rattle.rules.specs.Living.{overdue, overdue_in, may_ask}
use Rattle.rules.specs.State.{phase_of}
use Rattle.rules.specs.declared.answer.Answer.{Answer}
use Rattle.rules.specs.declared.act.Event.{Event}
use Rattle.rules.specs.declared.act.Event.TheVariants.{Tick, Connect, Confirm, Disconnect, Data, Message}
use Rattle.rules.specs.declared.state.Role.TheVariants.{Initiator}
use Rattle.rules.specs.declared.state.Life.{Life}
use Rattle.rules.specs.declared.state.Life.TheVariants.{Idle, Up}
use Rattle.rules.specs.declared.state.End.{End}
use Rattle.rules.proofs.Grounds.{NoteGrounds}
use Rattle.rules.proofs.Grounds.NoteGrounds.{idle_tick, starting_tick, connect_to_initiator, disconnect_at_rest, confirm_unasked, message_unawaited, data_too_early, bad_length, queue_full, malformed, other_kind, out_of_turn}
use Rattle.rules.proofs.Lives.{apart, starting_awake, starting_low}
use Rattle.run.specs.Events.{is_tick, is_message, is_data, is_acceptance, is_handed_in, is_passed_by}
use Rattle.run.proofs.Choices.{never, and-false}

-- an event that was answered 0 was a tick, or it was answered 3 to 7
pub data Sort (e : End) (event : Event) (at : Reading) (n : ℕ) : Type 0 where
  a_tick : event ≡ Tick → overdue e at ≡ false → (e.life ≡ Up → ⊥) → (e.life ≡ Idle → e.role ≡ Initiator → may_ask e at ≡ false)
      → n ≡ 0 → Sort e event at n
  a_refusal : (what : Event) → event ≡ what → is_tick what ≡ false → (is_passed_by e.role event ≡ true) ⊎ (overdue e at ≡ false)
      → 3 ≤ n → n ≤ 7 → Sort e event at n

module _ (e : End) (event : Event) (at : Reading) (b : List ℕ) where
  -- an answer of 3 to 7
  refused : (a c : Answer) (what : Event) → a ≡ c → event ≡ what → is_tick what ≡ false
      → (is_passed_by e.role event ≡ true) ⊎ (overdue e at ≡ false) → (3 ≤ number_of c) × (number_of c ≤ 7) → Sort e event at (number_of a)
  refused a c what is comes other why n =
      a_refusal what comes other why (subst (λ (x : Answer). 3 ≤ number_of x) (sym is) n.0)
      (subst (λ (x : Answer). number_of x ≤ 7) (sym is) n.1)

  pub note_sort : (a : Answer) → NoteGrounds e event at b a → Sort e event at (number_of a)
  note_sort a (idle_tick is t idle early) =
      a_tick t.comes t.timely (λ up. apart Idle Up refl (sym idle ∙ up)) (λ _. early) (ap number_of is)
  note_sort a (starting_tick is t phase) =
      a_tick t.comes t.timely (starting_low e.life phase) (λ idle _. absurd (starting_awake e.life phase idle)) (ap number_of is)
  note_sort a (connect_to_initiator is comes role) =
      refused a _ Connect is comes refl (inl (ap₂ is_passed_by role comes)) (omega arith, omega arith)
  note_sort a (disconnect_at_rest is comes idle) =
      refused a _ Disconnect is comes refl (inr (ap (λ (l : Life). overdue_in (phase_of l) e at) idle)) (omega arith, omega arith)
  note_sort a (confirm_unasked is t other) = refused a _ Confirm is t.comes refl (inr t.timely) (omega arith, omega arith)
  note_sort a (message_unawaited is t none) = refused a _ Message is t.comes refl (inr t.timely) (omega arith, omega arith)
  note_sort a (data_too_early is t low) = refused a _ Data is t.comes refl (inr t.timely) (omega arith, omega arith)
  note_sort a (bad_length is up bad) = refused a _ Data is up.comes refl (inr up.timely) (omega arith, omega arith)
  note_sort a (queue_full is up good busy full) = refused a _ Data is up.comes refl (inr up.timely) (omega arith, omega arith)
  note_sort a (malformed is l reads) = refused a _ Message is l.coming.comes refl (inr l.coming.timely) (omega arith, omega arith)
  note_sort a (other_kind m is l reads other) =
      refused a _ Message is l.coming.comes refl (inr l.coming.timely) (omega arith, omega arith)
  note_sort a (out_of_turn life h body is hears low turn kind) =
      refused a _ Message is hears.comes refl (inr hears.timely) (omega arith, omega arith)

  -- ---- what that says

  module _ (n : ℕ) (sort : Sort e event at n) where
    pub sort_timely : (is_passed_by e.role event ≡ true) ⊎ (overdue e at ≡ false)
    sort_timely = go sort
      where
        go : Sort e event at n → (is_passed_by e.role event ≡ true) ⊎ (overdue e at ≡ false)
        go (a_tick is timely low early zero') = inr timely
        go (a_refusal what is other why low high) = why

    pub sort_few : n ≤ 7
    sort_few = go sort
      where
        go : Sort e event at n → n ≤ 7
        go (a_tick is timely low early zero') = omega arith
        go (a_refusal what is other why low high) = high

    -- an end that is Up never only notes a tick, and an Idle initiator that does may not ask yet
    pub sort_tick : is_tick event ≡ true → (e.life ≡ Up → ⊥) × (e.life ≡ Idle → e.role ≡ Initiator → may_ask e at ≡ false) × (n ≡ 0)
    sort_tick tick = go sort
      where
        go : Sort e event at n → (e.life ≡ Up → ⊥) × (e.life ≡ Idle → e.role ≡ Initiator → may_ask e at ≡ false) × (n ≡ 0)
        go (a_tick is timely low early zero') = (low, early, zero')
        go (a_refusal what is other why low high) = never _ (ap is_tick is ∙ other) tick

    -- no other event is only noted with 0
    pub sort_else : is_tick event ≡ false → 3 ≤ n
    sort_else unticked = go sort
      where
        go : Sort e event at n → 3 ≤ n
        go (a_tick is timely low early zero') = never _ unticked (ap is_tick is)
        go (a_refusal what is other why low high) = low

    -- so nothing is accepted, and nothing handed in
    pub sort_unheard : is_acceptance event n ≡ false
    sort_unheard = go sort
      where
        go : Sort e event at n → is_acceptance event n ≡ false
        go (a_tick is timely low early zero') = ap (λ (v : Event). is_acceptance v n) is
        go (a_refusal what is other why low high) =
            ap₂ (λ (s t : Bool). is_message event && (s || t)) (ne_eqb n 0 (λ z. omega arith)) (ne_eqb n 13 (λ z. omega arith))
            ∙ and-false (is_message event)

    pub sort_unsaid : is_handed_in event n ≡ false
    sort_unsaid = go sort
      where
        go : Sort e event at n → is_handed_in event n ≡ false
        go (a_tick is timely low early zero') = ap (λ (v : Event). is_handed_in v n) is
        go (a_refusal what is other why low high) =
            ap (λ (t : Bool). is_data event && t) (ne_eqb n 0 (λ z. omega arith)) ∙ and-false (is_data event)
