-- What holds of bytes that read as a message: the one walk through the tests of `parse`.
use Rattle.std.specs.Prelude.{None, Option, Some, option_and_then}
use Prim.Native.Nat.{ℕ, ◌+◌, ◌≤◌, ◌<◌}
use native.Mathlib.Omega.{arith}
use mathlib.Core.Bool.{true, cond}
use mathlib.Core.List.{List}
use mathlib.Core.Path.{◌≡◌, refl, sym, subst}
use borrow.Author.Tests.{ltb-false, leb-true, eqb-true, eqb-false}
use lib.Arith.{lt_of_le-ne}
use lib.Dec.{ltb, leb, eqb}
use lib.ListN.{length, get_or, length-drop}
use Rattle.wire.specs.Message.{parse, body_in, payload_in, shapes, shape_of, offset_at, saying, header_in, train_in, longest}
use Rattle.wire.specs.Writing.{carries}
use Rattle.wire.specs.declared.message.Body.{Body}
use Rattle.wire.specs.declared.message.Body.TheVariants.{OffsetStart, OffsetAnsw1, OffsetAnsw2, OffsetEst, OffsetEnd, LifeSign, TrainData}
use Rattle.wire.specs.declared.message.Message.{Message}
use Rattle.wire.specs.declared.message.Shape.{Shape}
use Rattle.wire.proofs.Tests.{by_test}
use Rattle.wire.proofs.Carrying.{is_carried}
use Rattle.wire.proofs.Table.{by_row}

-- first byte, length, and what else a body takes
abbrev pub ReadsAs : List ℕ → Body → Type 0
ReadsAs s OffsetStart = (get_or s 0 0 ≡ 1) × (length s ≡ 15)
ReadsAs s OffsetAnsw1 = (get_or s 0 0 ≡ 2) × (length s ≡ 15)
ReadsAs s OffsetAnsw2 = (get_or s 0 0 ≡ 3) × (length s ≡ 15)
ReadsAs s (OffsetEst minimum maximum) =
    (get_or s 0 0 ≡ 4) × (length s ≡ 23) × (minimum ≡ offset_at s 15) × (maximum ≡ offset_at s 19)
ReadsAs s OffsetEnd = (get_or s 0 0 ≡ 5) × (length s ≡ 15)
ReadsAs s LifeSign = (get_or s 0 0 ≡ 6) × (length s ≡ 16) × (get_or s 15 0 ≡ 2)
ReadsAs s TrainData = (get_or s 0 0 ≡ 6) × (16 < length s) × (length s ≤ 16 + longest) × (get_or s 15 0 ≡ 3)

module _ (s : List ℕ) where
  abbrev Walked : Option Message → Type 0
  Walked r = (m : Message) → r ≡ Some m → (m.header ≡ header_in s) × ReadsAs s m.body

  malformed : Walked None
  malformed m e = let z : ◌≡◌ {A = ℕ} 0 1 = cc in absurd (omega arith)

  says : (b : Body) → ReadsAs s b → Walked (saying s b)
  says b ok m e =
      let q : record { header = header_in s; body = b } ≡ m = cc in
      subst (λ (x : Message). (x.header ≡ header_in s) × ReadsAs s x.body) q (refl, ok)

  exact : (n : ℕ) (b : Body) → (length s ≡ n → ReadsAs s b) → Walked (cond (eqb (length s) n) (saying s b) None)
  exact n b ok = by_test Walked (eqb (length s) n) (λ e. says b (ok (eqb-true (length s) n e))) (λ e. malformed)

  payload : get_or s 0 0 ≡ 6 → Walked (payload_in s)
  payload first =
      by_test Walked (ltb (length s) 16) (λ e. malformed)
      (λ e. by_test Walked (eqb (length s) 16)
      (λ f. by_test Walked (eqb (get_or s 15 0) 2)
      (λ g. says LifeSign (first, eqb-true (length s) 16 f, eqb-true (get_or s 15 0) 2 g))
      (λ g. malformed))
      (λ f. by_test Walked (leb (length s) (16 + longest))
      (λ g. by_test Walked (eqb (get_or s 15 0) 3)
      (λ h. says TrainData (
        first,
        lt_of_le-ne (ltb-false (length s) 16 e) (λ q. eqb-false (length s) 16 f (sym q)),
        leb-true (length s) (16 + longest) g,
        eqb-true (get_or s 15 0) 3 h,
      ))
      (λ h. malformed))
      (λ g. malformed)))

  of_kind : Walked (option_and_then (λ x. body_in x s) (shape_of (get_or s 0 0)))
  of_kind =
      by_row (λ (kind : ℕ) (x : Option Shape). Walked (option_and_then (λ x. body_in x s) x)) shapes (get_or s 0 0) None (
        λ is. exact 15 OffsetStart (λ e. (is, e)),
        λ _. (
          λ is. exact 15 OffsetAnsw1 (λ e. (is, e)),
          λ _. (
            λ is. exact 15 OffsetAnsw2 (λ e. (is, e)),
            λ _. (
              λ is. exact 23 (OffsetEst (offset_at s 15) (offset_at s 19)) (λ e. (is, e, refl, refl)),
              λ _. (λ is. exact 15 OffsetEnd (λ e. (is, e)), λ _. (λ is. payload is, λ _. malformed)),
            ),
          ),
        ),
      )

  pub reads_as : Walked (parse s)
  unfolding parse
  reads_as = by_test Walked (ltb (length s) 15) (λ e. malformed) (λ e. of_kind)

-- the train data of a message that was read can be carried
body_carried : (s : List ℕ) (b : Body) → ReadsAs s b → carries b (train_in s) ≡ true
body_carried s OffsetStart r = refl
body_carried s OffsetAnsw1 r = refl
body_carried s OffsetAnsw2 r = refl
body_carried s (OffsetEst minimum maximum) r = refl
body_carried s OffsetEnd r = refl
body_carried s LifeSign r = refl
body_carried s TrainData r = is_carried (train_in s) (rw length-drop (omega arith)) (rw length-drop (omega arith))

pub reads_carried : (s : List ℕ) (m : Message) → parse s ≡ Some m → carries m.body (train_in s) ≡ true
reads_carried s m e = body_carried s m.body (reads_as s m e).1
