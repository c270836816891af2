-- That a run is answered and puts out what its table says, by one test of the whole run.
use Prim.Native.Nat.{ℕ}
use mathlib.Core.Bool.{Bool, true, false, cond, ◌&&◌, false≢true}
use mathlib.Core.List.{List, [], ◌∷◌}
use mathlib.Core.Path.{◌≡◌, refl, sym, ◌∙◌}
use lib.Dec.{eqb}
use borrow.Author.Tests.{eqb-true}
use Rattle.rules.specs.Step.{Result}
use Rattle.pair.specs.World.{World}
use Rattle.rules.specs.Claims.{answer_of}
use Rattle.pair.specs.Happening.{result_at}
use Rattle.pair.specs.Run.{Beginning, SoundBeginning, begun, next}
use Rattle.pair.specs.Run.Move.{wait, at_left, at_right}
use Rattle.rules.specs.Outputs.{Output}
use Rattle.witness.specs.Table.{outputs_in}
use Rattle.rules.specs.Outputs.Output.{ask, accept, send, datum as give, up, error, release, down}
use Rattle.witness.specs.PairTable.{Row, ruled, Happens}
use Rattle.witness.specs.PairTable.Row.{left, right}
use Rattle.witness.proofs.PairSame.{both, same_bytes, same_bytes_lem}
use Rattle.witness.proofs.PairLawful.{runs, run_of}

-- ---- outputs: a number for each, and the bytes where there are any

abbrev pub kind : Output → ℕ
kind ask = 0
kind accept = 1
kind (send s) = 2
kind (give s) = 3
kind up = 4
kind error = 5
kind release = 6
kind down = 7

abbrev pub bytes_in : Output → List ℕ
bytes_in ask = []
bytes_in accept = []
bytes_in (send s) = s
bytes_in (give s) = s
bytes_in up = []
bytes_in error = []
bytes_in release = []
bytes_in down = []

abbrev pub output_by : ℕ → List ℕ → Output
output_by k s =
    cond (eqb k 0) ask
    (cond (eqb k 1) accept
    (cond (eqb k 2) (send s)
    (cond (eqb k 3) (give s) (cond (eqb k 4) up (cond (eqb k 5) error (cond (eqb k 6) release down))))))

output_by_lem : (o : Output) → output_by (kind o) (bytes_in o) ≡ o
output_by_lem ask = refl
output_by_lem accept = refl
output_by_lem (send s) = refl
output_by_lem (give s) = refl
output_by_lem up = refl
output_by_lem error = refl
output_by_lem release = refl
output_by_lem down = refl

abbrev pub same_outputs : List Output → List Output → Bool
same_outputs [] [] = true
same_outputs [] (y ∷ ys) = false
same_outputs (x ∷ xs) [] = false
same_outputs (x ∷ xs) (y ∷ ys) = eqb (kind x) (kind y) && (same_bytes (bytes_in x) (bytes_in y) && same_outputs xs ys)

same_outputs_lem : (xs ys : List Output) → same_outputs xs ys ≡ true → xs ≡ ys
same_outputs_lem [] [] e = refl
same_outputs_lem [] (y ∷ ys) e = absurd (false≢true e)
same_outputs_lem (x ∷ xs) [] e = absurd (false≢true e)
same_outputs_lem (x ∷ xs) (y ∷ ys) e =
    let p = both (eqb (kind x) (kind y)) _ e in
    let q = both (same_bytes (bytes_in x) (bytes_in y)) _ p.1 in
    let k = eqb-true (kind x) (kind y) p.0 in
    let s = same_bytes_lem (bytes_in x) (bytes_in y) q.0 in
    let first : x ≡ y = sym (output_by_lem x) ∙ ((λ i. output_by (k i) (s i)) ∙ output_by_lem y) in
    let rest = same_outputs_lem xs ys q.1 in
    λ i. first i ∷ rest i

-- ---- rows

-- a result has this answer and these outputs
abbrev pub is_shown : Result → ℕ → List Output → Bool
is_shown r answer outputs = eqb (answer_of r) answer && same_outputs (outputs_in r) outputs

is_shown_lem : (r : Result) (answer : ℕ) (outputs : List Output) → is_shown r answer outputs ≡ true → (answer_of r ≡ answer) × (outputs_in r ≡ outputs)
is_shown_lem r answer outputs e =
    let p = both (eqb (answer_of r) answer) _ e in
    (eqb-true (answer_of r) answer p.0, same_outputs_lem (outputs_in r) outputs p.1)

abbrev pub shows : World → List Row → Bool
shows w [] = true
shows w (left n c answer outputs ∷ xs) =
    let v = next w (wait n) in
    is_shown (result_at v.time v.left c) answer outputs && shows (next v (at_left c)) xs
shows w (right n c answer outputs ∷ xs) =
    let v = next w (wait n) in
    is_shown (result_at v.time v.right c) answer outputs && shows (next v (at_right c)) xs

pub rows_of : (w : World) (xs : List Row) → shows w xs ≡ true → ruled w xs ≡ xs
rows_of w [] e = refl
rows_of w (left n c answer outputs ∷ xs) e =
    let v = next w (wait n) in
    let r = result_at v.time v.left c in
    let p = both (is_shown r answer outputs) (shows (next v (at_left c)) xs) e in
    let q = is_shown_lem r answer outputs p.0 in
    let rest = rows_of (next v (at_left c)) xs p.1 in
    λ i. left n c (q.0 i) (q.1 i) ∷ rest i
rows_of w (right n c answer outputs ∷ xs) e =
    let v = next w (wait n) in
    let r = result_at v.time v.right c in
    let p = both (is_shown r answer outputs) (shows (next v (at_right c)) xs) e in
    let q = is_shown_lem r answer outputs p.0 in
    let rest = rows_of (next v (at_right c)) xs p.1 in
    λ i. right n c (q.0 i) (q.1 i) ∷ rest i

-- ---- both tests

pub happens : (b : Beginning) (xs : List Row) → SoundBeginning b → runs (begun b) xs ≡ true → shows (begun b) xs ≡ true → Happens b xs
happens b xs sound may is = record { sound = sound; run = run_of b xs may; rows = rows_of (begun b) xs is }
