-- Laws of the ring: which data wait, in which order.
use Prim.Native.Nat.{ℕ, zero, suc, ◌+◌, ◌-◌, ◌*◌, ◌%◌, ◌<◌}
use native.Mathlib.Nat.{add-zero}
use native.Mathlib.Omega.{arith}
use mathlib.Core.Bool.{false, and-eq-true_iff}
use mathlib.Mathlib.Data.Bool.Basic.{eq-false_of_not-eq-true}
use mathlib.Core.Path.{◌≡◌, refl, ap, ap₂, sym, ◌∙◌}
use mathlib.Core.List.{List, [], ◌∷◌, ◌++◌}
use borrow.Author.Tests.{lt-ltb, ltb-true, eq-eqb, ne_eqb}
use lib.Dec.{ltb}
use lib.ListN.{length, get_or}
use lib.Seq.{sets}
use Rattle.wire.specs.Writing.{carries}
use Rattle.wire.specs.declared.message.Body.TheVariants.{TrainData}
use Rattle.wire.proofs.Carrying.{carried_is, is_carried}
use Rattle.queue.specs.Ring.{places, slot_size, slot_start, slot_from, slot_data, slot_bytes, data_at, data_from, waiting_in, without_oldest, has_place, put_ring, put_bytes, Sendable}
use Rattle.queue.specs.declared.Ring.{Ring}

-- ---- what is put and what is taken out, by the facts that the tests tell

module _ (q : List ℕ) (r : Ring) (d : List ℕ) where
  pub accepted : waiting_in r < places → Sendable d
      → (record { head = r.head; count = waiting_in r + 1 } ≡ put_ring r d)
      × (sets q (slot_start (r.head + waiting_in r)) (slot_bytes d) ≡ put_bytes q r d)
  accepted free ok = rw (lt-ltb (waiting_in r) places free, is_carried d ok.0 ok.1) (refl, refl)

  pub refused : (waiting_in r < places → Sendable d → ⊥) → (r ≡ put_ring r d) × (q ≡ put_bytes q r d)
  refused h =
      let e : has_place r d ≡ false =
      eq-false_of_not-eq-true (λ t.
      let both = (and-eq-true_iff (ltb (waiting_in r) places) (carries TrainData d)).0 t in
      h (ltb-true (waiting_in r) places both.0) (carried_is d both.1)) in
      rw e (refl, refl)

pub taken_none : (r : Ring) → waiting_in r ≡ 0 → r ≡ without_oldest r
taken_none r e = rw (eq-eqb (waiting_in r) 0 e)

pub taken_some : (r : Ring) → 0 < waiting_in r → record { head = (r.head + 1) % places; count = waiting_in r - 1 } ≡ without_oldest r
taken_some r some = rw (ne_eqb (waiting_in r) 0 (λ (e : waiting_in r ≡ 0). omega arith))

-- ---- a run of places

-- the last of one more
pub from_last : (q : List ℕ) (k n : ℕ) → data_from q k (suc n) ≡ data_from q k n ++ (data_at q (k + n) ∷ [])
from_last q k zero = ap (λ (i : ℕ). data_at q i ∷ []) (sym (add-zero k))
from_last q k (suc n) =
    let e : k + 1 + n ≡ k + suc n = omega arith in
    ap (λ (l : List (List ℕ)). data_at q k ∷ l) (from_last q (k + 1) n ∙ ap (λ (i : ℕ). data_from q (k + 1) n ++ (data_at q i ∷ [])) e)

-- the same slots, the same data
pub from_same : (q p : List ℕ) (k n : ℕ) → ((i : ℕ) → i < n → data_at p (k + i) ≡ data_at q (k + i)) → data_from p k n ≡ data_from q k n
from_same q p k zero h = refl
from_same q p k (suc n) h =
    ap₂ ◌∷◌ (rw add-zero at (h 0 (omega arith)))
    (from_same q p (k + 1) n (λ i small. let e : k + suc i ≡ k + 1 + i = omega arith in rw e at (h (suc i) (omega arith))))

-- the places go round
pub from_round : (q : List ℕ) (k j n : ℕ) → k % places ≡ j % places → data_from q k n ≡ data_from q j n
from_round q k j zero e = refl
from_round q k j (suc n) e =
    ap₂ ◌∷◌ (ap (λ (i : ℕ). slot_data (slot_from q (i * slot_size))) e) (from_round q (k + 1) (j + 1) n (omega arith))

pub from_length : (q : List ℕ) (k n : ℕ) → length (data_from q k n) ≡ n
from_length q k zero = refl
from_length q k (suc n) = ap suc (from_length q (k + 1) n)

pub from_each : (q : List ℕ) (k n i : ℕ) → i < n → get_or (data_from q k n) i [] ≡ data_at q (k + i)
from_each q k zero i h = absurd (omega arith)
from_each q k (suc n) zero h = ap (data_at q) (sym (add-zero k))
from_each q k (suc n) (suc i) h = let e : k + 1 + i ≡ k + suc i = omega arith in from_each q (k + 1) n i (omega arith) ∙ ap (data_at q) e
