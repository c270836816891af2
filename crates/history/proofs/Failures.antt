-- The claims of specs/Failures.antt, from what each event shows.
use Prim.Native.Nat.{◌<◌}
use native.Mathlib.Omega.{arith}
use mathlib.Core.List.{List, [], ◌∷◌}
use mathlib.Core.Path.{◌≡◌, refl, ap}
use Rattle.rules.specs.declared.settings.Settings.{Settings}
use Rattle.run.specs.Run.{Making, Call, Sound, after, history}
use Rattle.run.proofs.Lasting.{ranges, run_lasts}
use Rattle.history.specs.Seen.{seen, stands_up}
use Rattle.history.specs.Failures.{FailuresCounted, FailuresBelowLimit, failures_since, failure_count}
use Rattle.history.proofs.Reports.{up_as_reported}
use Rattle.history.proofs.Walk.{shown}

pub failures_counted : FailuresCounted
unfolding stands_up failures_since seen after history
failures_counted m [] = refl
failures_counted m (c ∷ cs) =
    let earlier : (after m cs).end.line.failures ≡ failure_count (seen (history m cs)) = failures_counted m cs in
    let so = shown (after m cs) c in
    rw (up_as_reported m cs, so.stands) (so.counts (failures_since (seen (history m cs))) (rw (up_as_reported m cs) at earlier))

held_below : (m : Making) → Sound m → (cs : List Call) → (after m cs).end.line.failures < m.settings.errors
unfolding after
held_below m sound [] = (ranges m.settings sound.0).errors
held_below m sound (c ∷ cs) =
    let limit = ap (λ (s : Settings). s.errors) (run_lasts m cs).0 in
    let before = held_below m sound cs in
    let now = (shown (after m cs) c).below (omega arith) in
    omega arith

pub failures_below_limit : FailuresBelowLimit
failures_below_limit m sound cs =
    let held = held_below m sound cs in
    let same = failures_counted m cs in
    omega arith
