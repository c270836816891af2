-- The claims of specs/Release.antt, from what each event shows.
use Prim.Native.Nat.{ℕ}
use mathlib.Core.Path.{sym, ap, ◌∙◌}
use Rattle.rules.specs.declared.settings.Settings.{Settings}
use Rattle.run.specs.Run.{after, entry_of, history}
use Rattle.run.proofs.Lasting.{run_lasts}
use Rattle.history.specs.Seen.{seen, seen_of}
use Rattle.history.specs.Failures.{failure_count}
use Rattle.history.specs.Release.{is_released, ReleasedExactly, ReleasedIsDown}
use Rattle.history.proofs.Failures.{failures_counted}
use Rattle.history.proofs.Reports.{up_as_reported}
use Rattle.history.proofs.Walk.{shown}

pub released_exactly : ReleasedExactly
released_exactly m cs c =
    let a = (seen_of (entry_of m cs c)).answer in
    (shown (after m cs) c).released
    ∙ ap (λ (f : ℕ). is_released a f (after m cs).end.settings.errors) (failures_counted m cs)
    ∙ ap (λ (s : Settings). is_released a (failure_count (seen (history m cs))) s.errors) (run_lasts m cs).0

pub released_is_down : ReleasedIsDown
unfolding after
released_is_down m cs c is =
    let so = (shown (after m cs) c).rests is in
    (so.0, so.1 ∙ sym (up_as_reported m cs))
