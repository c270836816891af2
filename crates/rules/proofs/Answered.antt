-- Which answers an act's grounds allow, by what the table says that each leaves; and in which lives it comes.
use Prim.Native.Nat.{ℕ}
use mathlib.Core.Bool.{Bool, true, false}
use mathlib.Core.List.{List}
use mathlib.Core.Logic.{◌⊎◌, inl, inr}
use mathlib.Core.Path.{◌≡◌, sym, ap, ◌∙◌}
use borrow.Author.Tests.{eqb-false}
use lib.Dec.{eqb}
use Rattle.judge.specs.declared.clock.Reading.{Reading}
use Rattle.rules.specs.Answers.{leaves_of, Leaving}
use Rattle.rules.specs.Answers.Leaving.{as_ruled, no_end, everything, new_reading, down, error_report, delivered}
use Rattle.rules.specs.Living.{overdue}
use Rattle.rules.specs.State.{phase_of}
use Rattle.rules.specs.declared.answer.Answer.{Answer}
use Rattle.rules.specs.declared.act.Event.{Event}
use Rattle.rules.specs.declared.act.Event.TheVariants.{Message}
use Rattle.rules.specs.declared.act.Exchange.{Exchange}
use Rattle.rules.specs.declared.act.Exchange.TheVariants.{Begin, Greet, Measure, Estimate, Finish, Rise}
use Rattle.rules.specs.declared.state.Life.TheVariants.{Idle, Up}
use Rattle.rules.specs.declared.state.Phase.TheVariants.{Starting as starting}
use Rattle.rules.specs.declared.state.End.{End}
use Rattle.rules.proofs.Lives.{up_awake, starting_awake, starting_low}
use Rattle.rules.proofs.Grounds.{NoteGrounds, ExchangeGrounds, Failure, Fallen, StayGrounds}
use Rattle.rules.proofs.Grounds.NoteGrounds.{idle_tick, starting_tick, connect_to_initiator, disconnect_at_rest, confirm_unasked, message_unawaited, data_too_early, bad_length, queue_full, malformed, other_kind, out_of_turn}
use Rattle.rules.proofs.Grounds.Failure.{is_old, is_late}
use Rattle.rules.proofs.Grounds.Fallen.{by_silence, by_start, by_loss, by_failure}
use Rattle.rules.proofs.Grounds.StayGrounds.{no_room, went_back}

abbrev pub code_of : Leaving → ℕ
code_of as_ruled = 0
code_of no_end = 1
code_of everything = 2
code_of new_reading = 3
code_of down = 4
code_of error_report = 5
code_of delivered = 6

-- two rows of the last column that are told apart are not one
pub apart_leaving : (x y : Leaving) → eqb (code_of x) (code_of y) ≡ false → x ≡ y → ⊥
apart_leaving x y t same = eqb-false (code_of x) (code_of y) t (ap code_of same)

module _ (e : End) (event : Event) (at : Reading) (b : List ℕ) where
  pub stay_leaves : (room : ℕ) (a : Answer) → StayGrounds e event at b room a → leaves_of a ≡ everything
  stay_leaves room a (no_room is short) = ap leaves_of is
  stay_leaves room a (went_back is fits back) = ap leaves_of is

  pub note_leaves : (a : Answer) → NoteGrounds e event at b a → (leaves_of a ≡ as_ruled) ⊎ (leaves_of a ≡ new_reading)
  note_leaves a (idle_tick is t idle early) = inl (ap leaves_of is)
  note_leaves a (starting_tick is t phase) = inl (ap leaves_of is)
  note_leaves a (connect_to_initiator is comes role) = inr (ap leaves_of is)
  note_leaves a (disconnect_at_rest is comes idle) = inr (ap leaves_of is)
  note_leaves a (confirm_unasked is t other) = inr (ap leaves_of is)
  note_leaves a (message_unawaited is t none) = inr (ap leaves_of is)
  note_leaves a (data_too_early is t low) = inr (ap leaves_of is)
  note_leaves a (bad_length is up bad) = inr (ap leaves_of is)
  note_leaves a (queue_full is up good busy full) = inr (ap leaves_of is)
  note_leaves a (malformed is l reads) = inr (ap leaves_of is)
  note_leaves a (other_kind m is l reads other) = inr (ap leaves_of is)
  note_leaves a (out_of_turn life h body is hears low turn kind) = inr (ap leaves_of is)

  pub failure_leaves : (a : Answer) → Failure e event at b a → leaves_of a ≡ error_report
  failure_leaves a (is_old h train is hears class) = ap leaves_of is
  failure_leaves a (is_late h train is hears near stale) = ap leaves_of is

  pub failure_comes : (a : Answer) → Failure e event at b a → (event ≡ Message) × (overdue e at ≡ false) × (e.life ≡ Up)
  failure_comes a (is_old h train is hears class) = (hears.comes, hears.timely, hears.living)
  failure_comes a (is_late h train is hears near stale) = (hears.comes, hears.timely, hears.living)

  pub fall_leaves : (a : Answer) (error : Bool) → Fallen e event at b a error
      → ((leaves_of a ≡ down) × (error ≡ false)) ⊎ ((leaves_of a ≡ error_report) × (error ≡ true))
  fall_leaves a error (by_silence is quiet over alive sort) = inl (ap leaves_of is, quiet)
  fall_leaves a error (by_start life h body is quiet low next kind wrong) = inl (ap leaves_of is, quiet)
  fall_leaves a error (by_loss h train is quiet hears class) = inl (ap leaves_of is, quiet)
  fall_leaves a error (by_failure loud why full) = inr (failure_leaves a why, loud)

  pub fall_awake : (a : Answer) (error : Bool) → Fallen e event at b a error → e.life ≡ Idle → ⊥
  fall_awake a error (by_silence is quiet over alive sort) idle = alive idle
  fall_awake a error (by_start life h body is quiet low next kind wrong) idle = starting_awake life low (sym next.hearing.living ∙ idle)
  fall_awake a error (by_loss h train is quiet hears class) idle = up_awake e.life hears.living idle
  fall_awake a error (by_failure loud why full) idle = up_awake e.life (failure_comes a why).2 idle

  -- a message of the start goes out, or the last one comes, in a starting state that is not overdue
  pub exchange_comes : (x : Exchange) → ExchangeGrounds e event at b x → (phase_of e.life ≡ starting) × (overdue e at ≡ false)
  exchange_comes (Begin goes) g = (ap phase_of g.1, g.0.timely)
  exchange_comes (Greet s) g = (ap phase_of g.2.hearing.living, g.2.hearing.timely)
  exchange_comes (Measure m) g = (ap phase_of g.2.hearing.living, g.2.hearing.timely)
  exchange_comes (Estimate m) g = (ap phase_of g.2.hearing.living, g.2.hearing.timely)
  exchange_comes (Finish s) g = (ap phase_of g.4.hearing.living, g.4.hearing.timely)
  exchange_comes (Rise h) g = (ap phase_of g.hearing.living, g.hearing.timely)

  pub exchange_awake : (x : Exchange) → ExchangeGrounds e event at b x → e.life ≡ Idle → ⊥
  exchange_awake x g = starting_awake e.life (exchange_comes x g).0

  pub exchange_low : (x : Exchange) → ExchangeGrounds e event at b x → e.life ≡ Up → ⊥
  exchange_low x g = starting_low e.life (exchange_comes x g).0
