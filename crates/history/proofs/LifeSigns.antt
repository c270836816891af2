-- The claims of specs/LifeSigns.antt, from what each event shows.
use native.Mathlib.Omega.{arith}
use mathlib.Core.List.{List, [], ◌∷◌}
use mathlib.Core.Path.{refl}
use Rattle.rules.proofs.Lives.{only_up}
use Rattle.run.specs.Run.{Making, Call, after, history}
use Rattle.history.specs.Seen.{seen, stands_up}
use Rattle.history.specs.LifeSigns.{kind6_since, SpeaksWhileUp, SpeaksOnce, BusyAsSeen}
use Rattle.history.proofs.Reports.{up_as_reported}
use Rattle.history.proofs.Shown.{Marks}
use Rattle.history.proofs.Walk.{shown}

pub speaks_while_up : SpeaksWhileUp
unfolding after
speaks_while_up m cs c is = let up = (shown (after m cs) c).speaking is in (only_up _ up.0, only_up _ up.1)

marked : (m : Making) (cs : List Call) → Marks (after m cs).end.line.busy (stands_up (seen (history m cs))) (kind6_since (seen (history m cs)))
unfolding after history seen stands_up kind6_since
marked m [] = (refl, omega arith)
marked m (c ∷ cs) =
    let so = shown (after m cs) c in
    let earlier = marked m cs in
    rw (up_as_reported m cs, so.stands) (so.marks (kind6_since (seen (history m cs))) (rw (up_as_reported m cs) at earlier))

pub speaks_once : SpeaksOnce
speaks_once m cs = let most = (marked m cs).1 in omega arith

pub busy_as_seen : BusyAsSeen
busy_as_seen m cs = (marked m cs).0
