-- A message that may be delivered is ahead of the last one accepted, and within the limit.
use Prim.Native.Nat.{ℕ, ◌≤◌, ◌<◌}
use native.Mathlib.Omega.{arith}
use mathlib.Core.List.{List}
use mathlib.Core.Logic.{⊎_elim}
use mathlib.Core.Path.{subst}
use borrow.Author.Tests.{eqb-true, eqb-false, leb-true, leb-false}
use lib.Dec.{leb, eqb}
use Rattle.judge.specs.Sequence.{class_at}
use Rattle.judge.specs.declared.clock.Reading.{Reading}
use Rattle.judge.specs.declared.sequence.Class.{Class}
use Rattle.judge.specs.declared.sequence.Class.TheVariants.{Expected, Gap, Lost, Old}
use Rattle.wire.proofs.Tests.{by_test}
use Rattle.wire.specs.declared.message.Header.{Header}
use Rattle.rules.proofs.Grounds.{InReach}
use Rattle.rules.specs.Hearing.{ahead_for}
use Rattle.rules.specs.declared.act.Event.{Event}
use Rattle.rules.specs.declared.state.End.{End}

pub record Ahead (d limit : ℕ) : Type 0 where
  pub some : 1 ≤ d
  pub half : d ≤ 32_767
  pub near : 1 ≤ limit → d ≤ limit

-- d of a class that is delivered
abbrev Near : ℕ → ℕ → Class → Type 0
Near d limit Expected = Ahead d limit
Near d limit Gap = Ahead d limit
Near d limit Lost = Unit {0}
Near d limit Old = Unit {0}

class_near : (d limit : ℕ) → Near d limit (class_at d limit)
class_near d limit =
    by_test (Near d limit) (eqb d 0) (λ _. tt)
    (λ z. by_test (Near d limit) (eqb d 1)
    (λ t. let is = eqb-true d 1 t in record { some = omega arith; half = omega arith; near = λ some. omega arith })
    (λ _. by_test (Near d limit) (leb 32768 d) (λ _. tt)
    (λ u. by_test (Near d limit) (leb d limit)
    (λ t. let few = leb-true d limit t in
    let nonzero = eqb-false d 0 z in
    let less : d < 32768 = leb-false 32768 d u in record { some = omega arith; half = omega arith; near = λ some. few })
    (λ _. tt))))

pub in_reach : (e : End) (event : Event) (at : Reading) (b : List ℕ) (h : Header) → InReach e event at b h
    → Ahead (ahead_for e h) e.settings.jump
in_reach e event at b h reach =
    let d = ahead_for e h in
    let limit = e.settings.jump in
    ⊎_elim (λ t. subst (Near d limit) t (class_near d limit)) (λ t. subst (Near d limit) t (class_near d limit)) reach
