-- An Idle initiator asks again: what it knows of its last ask, in true time.
use Prim.Native.Nat.{ℕ, ◌+◌, ◌%◌, ◌^◌, ◌≤◌, ◌<◌}
use native.Mathlib.Omega.{arith}
use mathlib.Core.Bool.{Bool, true, false, cond, ◌&&◌, ◌||◌, and-eq-true_iff}
use mathlib.Core.List.{List, [], ◌∷◌}
use mathlib.Core.Logic.{◌⊎◌, inl, inr, ⊎_elim}
use mathlib.Core.Path.{◌≡◌, refl, sym, ap, ap₂, subst, ◌∙◌}
use Rattle.judge.specs.Clock.{passed_of}
use Rattle.judge.specs.declared.clock.Reading.{Reading}
use Rattle.wire.proofs.Tests.{by_test}
use Rattle.rules.specs.Ends.{was_up}
use Rattle.rules.specs.Living.{may_ask}
use Rattle.rules.specs.Make.{asks_at_once}
use Rattle.rules.specs.State.{phase_of, is_up}
use Rattle.rules.specs.declared.act.Event.{Event}
use Rattle.rules.specs.declared.settings.Settings.{Settings}
use Rattle.rules.specs.declared.state.Asking.{Asking}
use Rattle.rules.specs.declared.state.Role.{Role}
use Rattle.rules.specs.declared.state.Role.TheVariants.{Initiator, Called}
use Rattle.rules.specs.declared.state.Life.{Life}
use Rattle.rules.specs.declared.state.Life.TheVariants.{Idle, Calling, Opening}
use Rattle.rules.specs.declared.state.Phase.{Phase}
use Rattle.rules.specs.declared.state.Phase.TheVariants.{Idle as resting, Starting as starting, Up as upright}
use Rattle.rules.specs.declared.state.End.{End}
use Rattle.rules.proofs.Lives.{apart, apart_roles, of_phase, only_idle, waking}
use Rattle.run.specs.Run.{Making, Sound, Entry, after, entry_of}
use Rattle.run.specs.Events.{is_tick, is_connect, is_passed_by}
use Rattle.run.proofs.Choices.{never, and-false, or-false, or_left, or_right}
use Rattle.run.proofs.Events.{tick_is}
use Rattle.run.proofs.Lasting.{Ranges, ranges, run_lasts}
use Rattle.history.specs.Timed.{Moment, calls_of, Shows, latest, RunsTrue, time_of, AtLeastEvery, roomy, ticks, looks}
use Rattle.history.specs.Waiting.{waits, asks_in, rests, InitiatorAsks}
use Rattle.history.proofs.Fates.{Fate, fate}
use Rattle.history.proofs.Fates.Fate.{still, keeps, hearing, asking, accepting, beginning, falling}
use Rattle.history.proofs.Timed.{Within, start_timer, fate_start, within, forth, in_limit, run_within, near}

-- ---- ticks are looks

tick_passed : (role : Role) (event : Event) → is_tick event ≡ true → is_passed_by role event ≡ false
tick_passed Initiator event is = ap is_connect (tick_is event is)
tick_passed Called event is = refl

tick_looks : (x : Entry) → ticks x ≡ true → looks x ≡ true
tick_looks x is =
    let both = (and-eq-true_iff (is_tick x.call.event) (roomy x)).0 is in
    ap (λ (t : Bool). cond t false (roomy x)) (tick_passed x.before.end.role x.call.event both.0) ∙ both.1

-- ---- what holds of an initiator: t is the time, k that of the last tick, a when it last asked, b when its wait began,
-- i when it came to be Idle

abbrev Stage : Settings → ℕ → End → ℕ → ℕ → ℕ → ℕ → Phase → Type 0
Stage settings g e k a b i resting =
    ((k ≤ i) ⊎ (k < a + settings.retry)) × ((e.asking.at_once ≡ true) ⊎ (i < a + settings.wait + settings.wait + g))
Stage settings g e k a b i starting = (b < a + settings.wait) × (e.life ≡ Calling → b ≡ a)
Stage settings g e k a b i upright = Unit {0}

-- it may ask at once, or it holds when it last asked
abbrev Known : ℕ → Asking → Type 0
Known a asks = (asks.at_once ≡ true) ⊎ Shows asks.when a

record Asker (settings : Settings) (g : ℕ) (e : End) (t k a b i : ℕ) : Type 0 where
  past : a ≤ t
  known : Known a e.asking
  stage : Stage settings g e k a b i (phase_of e.life)

module _ (settings : Settings) (in_range : Ranges settings) (g s t k j a b i : ℕ) (small : g + settings.wait ≤ 2 ^ 31) (later : t ≤ s)
    (ticked : k ≤ j) (looked : j ≤ t) (often : s ≤ k + g) (x : Entry) (shows : Shows x.call.at s) (settled : x.before.end.settings ≡ settings)
    (limits : Within start_timer settings x.before.end t j b) (role : x.before.end.role ≡ Initiator)
    (before : Asker settings g x.before.end t k a b i) where
  abbrev e : End
  e = x.before.end

  abbrev f : End
  f = x.result.outcome.end

  abbrev at : Reading
  at = x.call.at

  abbrev tick_time : ℕ
  tick_time = cond (ticks x) s k

  under : g < 2 ^ 31
  under = let some = in_range.some_wait in omega arith

  looking : s ≤ j + g
  looking = omega arith

  tick_past : tick_time ≤ s
  tick_past = by_test (λ (n : ℕ). n ≤ s) (ticks x) (λ _. omega arith) (λ _. omega arith)

  in_phase : (p : Phase) → phase_of e.life ≡ p → Stage settings g e k a b i p
  in_phase p is = subst (Stage settings g e k a b i) is before.stage

  -- a tick that finds an Idle initiator and does not make it ask
  too_early : e.life ≡ Idle → may_ask e at ≡ false → s < a + settings.retry
  too_early idle early =
      let test = or-false e.asking.at_once (passed_of at e.asking.when e.settings.retry) early in
      let stage = in_phase resting (ap phase_of idle) in
      let asked : Shows e.asking.when a = ⊎_elim (never _ test.0) (λ z. z) before.known in
      let since : i < a + settings.wait + settings.wait + g = ⊎_elim (never _ test.0) (λ z. z) stage.1 in
      let most = in_range.most_retry in
      let old = before.past in
      let wraps : s < a + 2 ^ 32 = ⊎_elim (λ z. omega arith) (λ z. omega arith) stage.0 in
      let short : passed_of at e.asking.when settings.retry ≡ false =
      ap (λ (z : Settings). passed_of at e.asking.when z.retry) (sym settled) ∙ test.1 in
      within at e.asking.when s a settings.retry shows asked (omega arith) wraps short

  -- how long ago an end asked that goes down
  fallen_soon : (e.life ≡ Idle → ⊥) → (once : Bool) → once ≡ e.asking.at_once || (was_up e && asks_at_once e.role)
      → (once ≡ true) ⊎ (s < a + settings.wait + settings.wait + g)
  fallen_soon alive once is =
      ⊎_elim
      (λ phase. let c = (in_phase starting phase).0 in
      let d = (limits.held phase).2 in
      let l = looking in
      inr (omega arith))
      (λ up. inl (is ∙ or_right e.asking.at_once (was_up e && asks_at_once e.role)
      (ap₂ (λ (l : Life) (r : Role). is_up l && asks_at_once r) up role)))
      (waking e.life alive)

  abbrev Next : Type 0
  Next = Asker settings g f s tick_time (cond (asks_in x) s a) (cond (waits x) s b) (cond (rests x) s i)

  next_asking : Fate x → Next
  next_asking (still why answered same sorts) =
      let old = before.past in
      rw (sorts.0, sorts.2, sorts.1) (⊎_elim
      (λ short. let no-tick : ticks x ≡ false = ap (λ (v : Bool). is_tick x.call.event && v) short ∙ and-false (is_tick x.call.event) in
      let none : tick_time ≡ k = ap (λ (v : Bool). cond v s k) no-tick in
      subst (λ (y : End). Asker settings g y s tick_time a b i) (sym same)
      (rw none (record { past = omega arith; known = before.known; stage = before.stage })))
      (λ back. never _ (forth start_timer settings in_range g s t j b under later looking x shows settled limits) back) why)
  next_asking (keeps read sorts so) =
      let old = before.past in
      rw (sorts.0, sorts.2, sorts.1)
      (record {
        past = omega arith;
        known = subst (Known a) (sym so.asking) before.known;
        stage = subst (Stage settings g f tick_time a b i) (sym so.phase) (go (phase_of e.life) refl);
      })
    where
      go : (p : Phase) → phase_of e.life ≡ p → Stage settings g f tick_time a b i p
      go resting is =
          let idle = only_idle e.life is in
          let stage = in_phase resting is in (
            by_test (λ (n : ℕ). (n ≤ i) ⊎ (n < a + settings.retry)) (ticks x)
                (λ tick. inr (too_early idle (so.early ((and-eq-true_iff (is_tick x.call.event) (roomy x)).0 tick).0 idle role))) (λ _. stage.0),
            ⊎_elim (λ z. inl (ap (λ (y : Asking). y.at_once) so.asking ∙ z)) inr stage.1,
          )
      go starting is = ((in_phase starting is).0, λ call. (in_phase starting is).1 (so.calling call))
      go upright is = tt
  next_asking (hearing read sorts life heard same) =
      let old = before.past in
      rw (sorts.0, sorts.2, sorts.1)
      (record {
        past = omega arith;
        known = subst (Known a) (sym same) before.known;
        stage = subst (Stage settings g f tick_time a b i) (ap phase_of (sym life)) tt;
      })
  next_asking (asking read sorts life began asked) =
      let some = in_range.some_wait in
      rw (sorts.0, sorts.2, sorts.1)
      (record {
        past = omega arith;
        known = inr (ap (λ (r : Reading). r.0 % 2 ^ 32) asked ∙ shows);
        stage = subst (Stage settings g f tick_time s s i) (ap phase_of (sym life)) (omega arith, λ _. refl);
      })
  next_asking (accepting read sorts life began called) = absurd (apart_roles (sym called ∙ role))
  next_asking (beginning read sorts life began was same timely) =
      let old = before.past in
      let first = (in_phase starting (ap phase_of was)).1 was in
      let short = in_limit start_timer settings in_range g s t j b under later looking x shows settled limits (ap phase_of was) timely in
      rw (sorts.0, sorts.2, sorts.1)
      (record {
        past = omega arith;
        known = subst (Known a) (sym same) before.known;
        stage = subst (Stage settings g f tick_time a s i) (ap phase_of (sym life))
            (omega arith, λ is. absurd (apart Opening Calling refl (sym life ∙ is)));
      })
  next_asking (falling read sorts life alive asked once) =
      let old = before.past in
      rw (sorts.0, sorts.2, sorts.1)
      (record {
        past = omega arith;
        known = ⊎_elim (λ z. inl (once ∙ or_left e.asking.at_once (was_up e && asks_at_once e.role) z))
            (λ z. inr (ap (λ (r : Reading). r.0 % 2 ^ 32) asked ∙ z)) before.known;
        stage = subst (Stage settings g f tick_time a b s) (ap phase_of (sym life))
            (inl tick_past, fallen_soon alive f.asking.at_once once);
      })

-- ---- every run in true time

module _ (m : Making) (start : ℕ) where
  ticks_before : (xs : List Moment) → RunsTrue m start xs → (time_of ticks m start xs ≤ time_of looks m start xs) × (time_of looks m start xs ≤ latest start xs)
  unfolding time_of
  ticks_before [] clock = (omega arith, omega arith)
  ticks_before (x ∷ xs) clock =
      let so = ticks_before xs clock.0 in
      let later = clock.1 in
      let y = entry_of m (calls_of xs) x.call in
      let j = time_of looks m start xs in (
        by_test (λ (n : ℕ). n ≤ cond (looks y) x.time j) (ticks y)
            (λ is. subst (λ (v : Bool). x.time ≤ cond v x.time j) (sym (tick_looks y is)) (omega arith))
            (λ _. by_test (λ (n : ℕ). time_of ticks m start xs ≤ n) (looks y) (λ _. omega arith) (λ _. omega arith)),
        by_test (λ (n : ℕ). n ≤ x.time) (looks y) (λ _. omega arith) (λ _. omega arith),
      )

  ticks_look : (g : ℕ) (xs : List Moment) → RunsTrue m start xs → AtLeastEvery g ticks m start xs → AtLeastEvery g looks m start xs
  ticks_look g [] clock often = tt
  ticks_look g (x ∷ xs) clock often =
      let so = ticks_before xs clock.0 in
      let near' = often.1 in
      (ticks_look g xs clock.0 often.0, omega arith)

module _ (m : Making) (sound : Sound m) (start g : ℕ) (small : g + m.settings.wait ≤ 2 ^ 31) (first : m.role ≡ Initiator) where
  below : g < 2 ^ 31
  below = let some = (ranges m.settings sound.0).some_wait in omega arith

  run_asking : (xs : List Moment) → RunsTrue m start xs → AtLeastEvery g ticks m start xs
      → Asker m.settings g (after m (calls_of xs)).end (latest start xs) (time_of ticks m start xs) (time_of asks_in m start xs)
      (time_of waits m start xs) (time_of rests m start xs)
  unfolding after time_of
  run_asking [] clock often =
      record { past = omega arith; known = inl (ap asks_at_once first); stage = (inl (omega arith), inl (ap asks_at_once first)) }
  run_asking (x ∷ xs) clock often =
      let y = entry_of m (calls_of xs) x.call in
      let order = ticks_before m start xs clock.0 in
      next_asking m.settings (ranges m.settings sound.0) g x.time (latest start xs) (time_of ticks m start xs) (time_of looks m start xs)
      (time_of asks_in m start xs) (time_of waits m start xs) (time_of rests m start xs) small clock.1 order.0 order.1 often.1 y clock.2
      (run_lasts m (calls_of xs)).0
      (run_within start_timer fate_start (λ z. of_phase Idle Idle starting z refl refl) m sound start g below xs clock.0 (ticks_look m start g xs clock.0 often.0))
      ((run_lasts m (calls_of xs)).1 ∙ first) (run_asking xs clock.0 often.0) (fate (after m (calls_of xs)) x.call)

pub initiator_asks : InitiatorAsks
initiator_asks m sound start g xs clock often small first idle =
    let last = near g ticks m start xs often in
    let held = (run_asking m sound start g (omega arith) first xs clock often).stage in
    let stage = subst
    (Stage m.settings g (after m (calls_of xs)).end (time_of ticks m start xs) (time_of asks_in m start xs) (time_of waits m start xs) (time_of rests m start xs))
    (ap phase_of idle) held in
    ⊎_elim (λ z. inl (omega arith, omega arith)) (λ z. inr (omega arith, omega arith)) stage.0
