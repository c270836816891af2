-- An end that hears nothing does not stay Up.
use Prim.Native.Nat.{ℕ, ◌%◌, ◌^◌, ◌≤◌, ◌<◌}
use native.Mathlib.Nat.{add-zero}
use native.Mathlib.Omega.{arith}
use mathlib.Core.Bool.{false}
use mathlib.Core.Logic.{⊎_elim}
use mathlib.Core.Path.{◌≡◌, refl, sym, ap, subst, ◌∙◌}
use borrow.Author.Tests.{leb-false}
use Rattle.judge.proofs.Difference.{diff_is}
use Rattle.judge.specs.Clock.{since_of}
use Rattle.judge.specs.declared.clock.Reading.{Reading}
use Rattle.rules.specs.Claims.{answer_of}
use Rattle.rules.specs.Living.{overdue_in}
use Rattle.rules.specs.State.{phase_of}
use Rattle.rules.specs.declared.settings.Settings.{Settings}
use Rattle.rules.specs.declared.state.Role.{Role}
use Rattle.rules.specs.declared.state.Life.TheVariants.{Idle, Up}
use Rattle.rules.specs.declared.state.Phase.{Phase}
use Rattle.rules.specs.declared.state.Phase.TheVariants.{Up as upright}
use Rattle.rules.proofs.Lives.{of_phase}
use Rattle.run.specs.Run.{Entry, after, entry_of}
use Rattle.run.specs.Events.{is_passed_by}
use Rattle.run.proofs.Choices.{never}
use Rattle.run.proofs.Lasting.{ranges, run_lasts}
use Rattle.history.specs.Silence.{SilentEndsFall, SilenceEnds}
use Rattle.history.proofs.Fates.{fate}
use Rattle.history.proofs.Timed.{Timed, silence_timer, fate_silence, ends_in_time}
use Rattle.history.proofs.Timed.Timed.{unmoved, elsewhere, renewed, runs_on}

-- ---- by readings

no_ticks : (at from : Reading) → from ≡ at → since_of at from ≡ 0
no_ticks at from is =
    diff_is 32 0 at.0 from.0 (omega arith) (ap (λ (n : ℕ). n % 2 ^ 32) (add-zero from.0) ∙ ap (λ (r : Reading). r.0 % 2 ^ 32) is)

module _ (x : Entry) (limit : ℕ) (some : 2 ≤ limit) (settled : x.before.end.settings.silence ≡ limit)
    (other : is_passed_by x.before.end.role x.call.event ≡ false) (not-2 : answer_of x.result ≡ 2 → ⊥) (not-14 : answer_of x.result ≡ 14 → ⊥)
    (high : x.result.outcome.end.life ≡ Up) where
  abbrev Young : Reading → Type 0
  Young heard = since_of x.call.at heard < limit

  young : Timed silence_timer x → Young x.result.outcome.end.line.times.heard
  young (unmoved why answered same not) = absurd (⊎_elim not-2 not-14 answered)
  young (elsewhere read gone) = absurd (gone (ap phase_of high))
  young (renewed read yes' now) =
      let n = no_ticks x.call.at x.result.outcome.end.line.times.heard now in omega arith
  young (runs_on read not same as' timely) =
      let e = x.before.end in
      let up : upright ≡ phase_of e.life = sym (ap phase_of high) ∙ same in
      let short = ⊎_elim (never _ other) (λ ok. ap (λ (p : Phase). overdue_in p e x.call.at) up ∙ ok) timely in
      let ticks = since_of x.call.at e.line.times.heard in
      let less : ticks < e.settings.silence = leb-false e.settings.silence ticks short in
      subst Young (sym as') (omega arith)

pub silent_ends_fall : SilentEndsFall
silent_ends_fall m sound cs c other not-2 not-14 high =
    let x = entry_of m cs c in
    young x m.settings.silence (ranges m.settings sound.0).some_silence (ap (λ (s : Settings). s.silence) (run_lasts m cs).0)
    (ap (λ (r : Role). is_passed_by r c.event) (run_lasts m cs).1 ∙ other) not-2 not-14 high (fate_silence x (fate (after m cs) c))

-- ---- in true time

pub silence_ends : SilenceEnds
silence_ends m sound start g xs clock often small high =
    ends_in_time silence_timer fate_silence (λ z. of_phase Idle Idle upright z refl refl) m sound start g small xs clock often (ap phase_of high)
