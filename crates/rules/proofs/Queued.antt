-- What waits once user data are held, and once the oldest go.
use Prim.Native.Nat.{ℕ, ◌<◌}
use native.Mathlib.Omega.{arith}
use mathlib.Core.Bool.{◌&&◌, and-eq-true_iff}
use mathlib.Core.List.{List, [], ◌∷◌, ◌++◌}
use mathlib.Core.Path.{◌≡◌, subst}
use borrow.Author.Tests.{leb-true, ltb-true}
use lib.Dec.{leb, ltb}
use lib.ListN.{length}
use Rattle.judge.specs.declared.clock.Reading.{Reading}
use Rattle.queue.proofs.Claims.{put_comes_last, takes_first}
use Rattle.queue.specs.Ring.{size, places, entries, waiting_in, oldest_in, without_oldest, put_ring, put_bytes}
use Rattle.queue.specs.declared.Ring.{Ring}
use Rattle.wire.specs.Message.{longest}
use Rattle.rules.specs.Talking.{longer}
use Rattle.rules.specs.declared.act.Event.{Event}
use Rattle.rules.specs.declared.act.Speech.TheVariants.{Drain, Hold}
use Rattle.rules.specs.declared.state.End.{End}
use Rattle.rules.proofs.Grounds.{SpeechGrounds}

module _ (e : End) (event : Event) (at : Reading) (b q : List ℕ) where
  -- data that are held come last
  pub holds_last : length q ≡ size → SpeechGrounds e event at b Hold
      → entries (put_bytes q e.ring b) (longer e.ring) ≡ entries q e.ring ++ (b ∷ [])
  holds_last whole g =
      let both = (and-eq-true_iff (leb 1 (length b)) (leb (length b) longest)).0 g.1 in
      let fits = (and-eq-true_iff (ltb (waiting_in e.ring) places) (leb 1 (length b) && leb (length b) longest)).1 (g.3, g.1) in
      let held : put_ring e.ring b ≡ longer e.ring = rw fits in
      subst (λ (r : Ring). entries (put_bytes q e.ring b) r ≡ entries q e.ring ++ (b ∷ [])) held
      (put_comes_last q e.ring b whole (ltb-true (waiting_in e.ring) places g.3)
      (leb-true 1 (length b) both.0, leb-true (length b) longest both.1))

  -- the oldest go first
  pub drains_first : SpeechGrounds e event at b Drain → entries q e.ring ≡ oldest_in q e.ring ∷ entries q (without_oldest e.ring)
  drains_first g = takes_first q e.ring (some g.1)
    where
      some : (waiting_in e.ring ≡ 0 → ⊥) → 0 < e.ring.count
      some none = omega arith
