-- Limits in true time: while events come often enough, differences of readings are differences of times.
use Prim.Native.Nat.{ℕ, ◌+◌, ◌-◌, ◌%◌, ◌^◌, ◌≤◌, ◌<◌}
use native.Mathlib.Nat.{mod-add-mod}
use native.Mathlib.Omega.{arith}
use mathlib.Core.Bool.{Bool, true, false, cond}
use mathlib.Core.List.{List, [], ◌∷◌}
use mathlib.Core.Logic.{◌⊎◌, ⊎_elim}
use mathlib.Core.Path.{◌≡◌, refl, sym, ap, subst, ◌∙◌}
use borrow.Author.Tests.{leb-false, lt-leb}
use Rattle.judge.proofs.Difference.{diff_is}
use Rattle.judge.specs.Clock.{since_of, back_of, passed_of}
use Rattle.judge.specs.declared.clock.Reading.{Reading}
use Rattle.wire.proofs.Tests.{by_test}
use Rattle.rules.specs.Claims.{answer_of}
use Rattle.rules.specs.Living.{overdue, overdue_in}
use Rattle.rules.specs.State.{phase_of}
use Rattle.rules.specs.declared.settings.Settings.{Settings}
use Rattle.rules.specs.declared.state.Life.TheVariants.{Idle, Calling, Opening, Greeted, Up}
use Rattle.rules.specs.declared.state.Line.{Line}
use Rattle.rules.specs.declared.state.Phase.{Phase}
use Rattle.rules.specs.declared.state.Phase.TheVariants.{Starting as starting, Up as upright}
use Rattle.rules.specs.declared.state.End.{End}
use Rattle.rules.proofs.Lives.{of_phase}
use Rattle.run.specs.Run.{Making, Sound, Entry, after, entry_of}
use Rattle.run.specs.Events.{is_passed_by}
use Rattle.run.proofs.Choices.{never}
use Rattle.run.proofs.Lasting.{Ranges, ranges, run_lasts}
use Rattle.history.specs.Timed.{Moment, calls_of, Shows, latest, RunsTrue, time_of, AtLeastEvery, roomy, looks}
use Rattle.history.specs.Waiting.{waits}
use Rattle.history.specs.Silence.{hears}
use Rattle.history.proofs.Fates.{Fate, InTime, old, new, fate}
use Rattle.history.proofs.Fates.Fate.{still, keeps, hearing, asking, accepting, beginning, falling}

-- ---- readings and times

true_since : (at from : Reading) (s b : ℕ) → Shows at s → Shows from b → b ≤ s → s < b + 2 ^ 32 → since_of at from ≡ s - b
true_since at from s b shown began order near =
    let P = 2 ^ 32 in
    let n = s - b in
    let back : b + n ≡ s = omega arith in
    diff_is 32 n at.0 from.0 (omega arith)
    (sym (mod-add-mod from.0 P n) ∙ ap (λ (k : ℕ). (k + n) % P) began ∙ mod-add-mod b P n ∙ ap (λ (k : ℕ). k % P) back ∙ sym shown)

pub within : (at from : Reading) (s b limit : ℕ) → Shows at s → Shows from b → b ≤ s → s < b + 2 ^ 32 → passed_of at from limit ≡ false
    → s < b + limit
within at from s b limit shown began order near short =
    let is = true_since at from s b shown began order near in
    let less : since_of at from < limit = leb-false limit (since_of at from) short in
    omega arith

goes_forth : (at from : Reading) (s b : ℕ) → Shows at s → Shows from b → b ≤ s → s < b + 2 ^ 31 → back_of at from ≡ false
goes_forth at from s b shown began order near =
    let is = true_since at from s b shown began order (omega arith) in
    lt-leb (2 ^ 31) (since_of at from) (omega arith)

-- ---- what ends a phase

-- since when a phase lasts, for how long it may, and what begins it anew
pub record Timer : Type 0 where
  pub phase : Phase
  pub held : Line → Reading
  pub limit : Settings → ℕ
  pub renews : Entry → Bool
  pub some : (s : Settings) → Ranges s → 1 ≤ limit s
  pub most : (s : Settings) → Ranges s → limit s ≤ 1_000_000
  pub ends : (e : End) (at : Reading) → overdue_in phase e at ≡ passed_of at (held e.line) (limit e.settings)

abbrev pub start_timer : Timer
start_timer =
    record {
      phase = starting;
      held = λ l. l.began;
      limit = λ s. s.wait;
      renews = waits;
      some = λ s r. r.some_wait;
      most = λ s r. r.most_wait;
      ends = λ e at. refl;
    }

abbrev pub silence_timer : Timer
silence_timer =
    record {
      phase = upright;
      held = λ l. l.times.heard;
      limit = λ s. s.silence;
      renews = hears;
      some = λ s r. let two = r.some_silence in omega arith;
      most = λ s r. r.most_silence;
      ends = λ e at. refl;
    }

-- what an event does to it
pub data Timed (w : Timer) (x : Entry) : Type 0 where
  unmoved : (roomy x ≡ false) ⊎ (back_of x.call.at (old x).reading ≡ true)
      → (answer_of x.result ≡ 2) ⊎ (answer_of x.result ≡ 14) → new x ≡ old x → w.renews x ≡ false → Timed w x
  elsewhere : (new x).reading ≡ x.call.at → (phase_of (new x).life ≡ w.phase → ⊥) → Timed w x
  renewed : (new x).reading ≡ x.call.at → w.renews x ≡ true → w.held (new x).line ≡ x.call.at → Timed w x
  runs_on : (new x).reading ≡ x.call.at → w.renews x ≡ false
      → phase_of (new x).life ≡ phase_of (old x).life
      → w.held (new x).line ≡ w.held (old x).line → InTime (old x) x.call.event x.call.at → Timed w x

pub fate_start : (x : Entry) → Fate x → Timed start_timer x
fate_start x (still why answered same sorts) = unmoved why answered same sorts.0
fate_start x (keeps read sorts so) = runs_on read sorts.0 so.phase so.began so.timely
fate_start x (hearing read sorts life heard same) = elsewhere read (λ phase. of_phase _ Up starting phase refl life)
fate_start x (asking read sorts life began asked) = renewed read sorts.0 began
fate_start x (accepting read sorts life began role) = renewed read sorts.0 began
fate_start x (beginning read sorts life began was same timely) = renewed read sorts.0 began
fate_start x (falling read sorts life alive asked once) = elsewhere read (λ phase. of_phase _ Idle starting phase refl life)

pub fate_silence : (x : Entry) → Fate x → Timed silence_timer x
fate_silence x (still why answered same sorts) = unmoved why answered same sorts.3
fate_silence x (keeps read sorts so) = runs_on read sorts.3 so.phase so.heard so.timely
fate_silence x (hearing read sorts life heard same) = renewed read sorts.3 heard
fate_silence x (asking read sorts life began asked) = elsewhere read (λ phase. of_phase _ Calling upright phase refl life)
fate_silence x (accepting read sorts life began role) = elsewhere read (λ phase. of_phase _ Greeted upright phase refl life)
fate_silence x (beginning read sorts life began was same timely) = elsewhere read (λ phase. of_phase _ Opening upright phase refl life)
fate_silence x (falling read sorts life alive asked once) = elsewhere read (λ phase. of_phase _ Idle upright phase refl life)

-- ---- what holds of an end: t is the time, j when it last looked at its limits, r when its timer was renewed

pub record Within (w : Timer) (settings : Settings) (e : End) (t j r : ℕ) : Type 0 where
  pub seen : ℕ
  pub shown : Shows e.reading seen
  pub looked : j ≤ seen
  pub past : seen ≤ t
  pub held : phase_of e.life ≡ w.phase → Shows (w.held e.line) r × (r ≤ t) × (j < r + w.limit settings)

looks_else : (i r : Bool) → cond i false r ≡ true → i ≡ false
looks_else true r is = sym is
looks_else false r is = refl

looks_not : (i r : Bool) → r ≡ false → cond i false r ≡ false
looks_not true r is = refl
looks_not false r is = is

module _ (w : Timer) (settings : Settings) (in_range : Ranges settings) (g s t j r : ℕ) (small : g < 2 ^ 31) (later : t ≤ s) (often : s ≤ j + g)
    (x : Entry) (shows : Shows x.call.at s) (settled : x.before.end.settings ≡ settings) (before : Within w settings x.before.end t j r) where
  abbrev e : End
  e = x.before.end

  abbrev f : End
  f = x.result.outcome.end

  abbrev at : Reading
  at = x.call.at

  pub forth : back_of at e.reading ≡ false
  forth =
      let a = before.looked in
      let c = before.past in
      goes_forth at e.reading s before.seen shows before.shown (omega arith) (omega arith)

  pub in_limit : phase_of e.life ≡ w.phase → overdue e at ≡ false → s < r + w.limit settings
  in_limit phase timely =
      let h = before.held phase in
      let most = w.most settings in_range in
      let short : passed_of at (w.held e.line) (w.limit settings) ≡ false =
      ap (λ (z : Settings). passed_of at (w.held e.line) (w.limit z)) (sym settled) ∙ sym (w.ends e at)
      ∙ ap (λ (p : Phase). overdue_in p e at) (sym phase) ∙ timely in
      within at (w.held e.line) s r (w.limit settings) shows h.0 (omega arith) (omega arith) short

  -- when it looked last
  abbrev look : ℕ
  look = cond (looks x) s j

  looked_past : look ≤ s
  looked_past =
      let a = before.looked in
      let c = before.past in
      by_test (λ (n : ℕ). n ≤ s) (looks x) (λ _. omega arith) (λ _. omega arith)

  -- a limit that holds at every look holds at the last
  looked_below : (n : ℕ) → j < n → InTime e x.call.event at → (overdue e at ≡ false → s < n) → look < n
  looked_below n old why so =
      by_test (λ (k : ℕ). k < n) (looks x)
      (λ is. ⊎_elim (λ z. never _ (looks_else (is_passed_by e.role x.call.event) (roomy x) is) z) so why) (λ _. old)

  shows_as : (from : Reading) (n : ℕ) (y : Reading) → y ≡ from → Shows from n → Shows y n
  shows_as from n y is so = ap (λ (z : Reading). z.0 % 2 ^ 32) is ∙ so

  next_within : Timed w x → Within w settings f s look (cond (w.renews x) s r)
  next_within (unmoved why answered same not) =
      let a = before.looked in
      let c = before.past in
      rw not (⊎_elim
      (λ small. let none : look ≡ j = ap (λ (v : Bool). cond v s j) (looks_not (is_passed_by e.role x.call.event) (roomy x) small) in
      subst (λ (y : End). Within w settings y s look r) (sym same)
      (record {
        seen = before.seen;
        shown = before.shown;
        looked = omega arith;
        past = omega arith;
        held = λ phase. let h = before.held phase in (h.0, omega arith, omega arith);
      }))
      (λ back. never _ forth back) why)
  next_within (elsewhere read gone) =
      record { seen = s; shown = shows_as at s f.reading read shows; looked = looked_past; past = omega arith; held = λ phase. absurd (gone phase) }
  next_within (renewed read yes' now) =
      let some = w.some settings in_range in
      let p = looked_past in
      rw yes'
      (record {
        seen = s;
        shown = shows_as at s f.reading read shows;
        looked = p;
        past = omega arith;
        held = λ _. (shows_as at s (w.held f.line) now shows, omega arith, omega arith);
      })
  next_within (runs_on read not same as' timely) =
      rw not
      (record {
        seen = s;
        shown = shows_as at s f.reading read shows;
        looked = looked_past;
        past = omega arith;
        held = λ phase. let was : phase_of e.life ≡ w.phase = sym same ∙ phase in
            let h = before.held was in
            (shows_as (w.held e.line) r (w.held f.line) as' h.0, omega arith, looked_below (r + w.limit settings) h.2 timely (in_limit was));
      })

-- ---- every run in true time

-- at any moment, the last one of a sort is at most g ticks ago
pub near : (g : ℕ) (sort : Entry → Bool) (m : Making) (start : ℕ) (xs : List Moment) → AtLeastEvery g sort m start xs
    → latest start xs ≤ time_of sort m start xs + g
unfolding time_of
near g sort m start [] often = omega arith
near g sort m start (x ∷ xs) often =
    let last = often.1 in
    by_test (λ (n : ℕ). x.time ≤ n + g) (sort (entry_of m (calls_of xs) x.call)) (λ _. omega arith) (λ _. last)

module _ (w : Timer) (tells : (x : Entry) → Fate x → Timed w x) (later : phase_of Idle ≡ w.phase → ⊥)
    (m : Making) (sound : Sound m) (start g : ℕ) (small : g < 2 ^ 31) where
  pub run_within : (xs : List Moment) → RunsTrue m start xs → AtLeastEvery g looks m start xs
      → Within w m.settings (after m (calls_of xs)).end (latest start xs) (time_of looks m start xs) (time_of w.renews m start xs)
  unfolding after time_of
  run_within [] clock often =
      record { seen = start; shown = clock; looked = omega arith; past = omega arith; held = λ phase. absurd (later phase) }
  run_within (x ∷ xs) clock often =
      let y = entry_of m (calls_of xs) x.call in
      next_within w m.settings (ranges m.settings sound.0) g x.time (latest start xs) (time_of looks m start xs) (time_of w.renews m start xs) small
      clock.1 often.1 y clock.2 (run_lasts m (calls_of xs)).0 (run_within xs clock.0 often.0) (tells y (fate (after m (calls_of xs)) x.call))

  -- no phase outlives its limit by g ticks, and none its limit at a look
  pub ends_in_time : (xs : List Moment) → RunsTrue m start xs → AtLeastEvery g looks m start xs → phase_of (after m (calls_of xs)).end.life ≡ w.phase
      → (time_of looks m start xs < time_of w.renews m start xs + w.limit m.settings)
      × (latest start xs < time_of w.renews m start xs + w.limit m.settings + g)
  ends_in_time xs clock often phase =
      let held = ((run_within xs clock often).held phase).2 in
      let last = near g looks m start xs often in
      (omega arith, omega arith)
