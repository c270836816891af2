-- That two letters, data, deliveries or lists of them are the same, by a test.
use Prim.Native.Nat.{ℕ}
use mathlib.Core.Bool.{Bool, true, false, ◌&&◌, and-eq-true_iff, false≢true}
use mathlib.Core.List.{List, [], ◌∷◌}
use mathlib.Core.Path.{◌≡◌, refl}
use lib.Dec.{eqb}
use borrow.Author.Tests.{eqb-true}
use Rattle.pair.specs.World.{Letter, Datum, Delivery}

pub both : (a b : Bool) → (a && b) ≡ true → (a ≡ true) × (b ≡ true)
both a b e = (and-eq-true_iff a b).0 e

-- ---- lists

abbrev pub same_list : {A : Type 0} → (A → A → Bool) → List A → List A → Bool
same_list same [] [] = true
same_list same [] (y ∷ ys) = false
same_list same (x ∷ xs) [] = false
same_list same (x ∷ xs) (y ∷ ys) = same x y && same_list same xs ys

same_list_lem : {A : Type 0} (same : A → A → Bool) → ((x y : A) → same x y ≡ true → x ≡ y) → (xs ys : List A) → same_list same xs ys ≡ true → xs ≡ ys
same_list_lem same is [] [] e = refl
same_list_lem same is [] (y ∷ ys) e = absurd (false≢true e)
same_list_lem same is (x ∷ xs) [] e = absurd (false≢true e)
same_list_lem same is (x ∷ xs) (y ∷ ys) e =
    let p = both (same x y) (same_list same xs ys) e in
    let first = is x y p.0 in
    let rest = same_list_lem same is xs ys p.1 in
    λ i. first i ∷ rest i

abbrev pub same_bytes : List ℕ → List ℕ → Bool
same_bytes xs ys = same_list eqb xs ys

pub same_bytes_lem : (xs ys : List ℕ) → same_bytes xs ys ≡ true → xs ≡ ys
same_bytes_lem xs ys e = same_list_lem eqb eqb-true xs ys e

-- ---- letters

abbrev pub same_letter : Letter → Letter → Bool
same_letter a b =
    eqb a.connection b.connection
    && (eqb a.index b.index
    && (eqb a.time b.time && (eqb a.place b.place && same_bytes a.bytes b.bytes)))

pub same_letter_lem : (a b : Letter) → same_letter a b ≡ true → a ≡ b
same_letter_lem a b e =
    let p = both (eqb a.connection b.connection) _ e in
    let q = both (eqb a.index b.index) _ p.1 in
    let s = both (eqb a.time b.time) _ q.1 in
    let t = both (eqb a.place b.place) _ s.1 in
    let connection = eqb-true a.connection b.connection p.0 in
    let index = eqb-true a.index b.index q.0 in
    let time = eqb-true a.time b.time s.0 in
    let place = eqb-true a.place b.place t.0 in
    let bytes = same_bytes_lem a.bytes b.bytes t.1 in
    λ i. record { connection = connection i; index = index i; time = time i; place = place i; bytes = bytes i }

pub same_letters : (xs ys : List Letter) → same_list same_letter xs ys ≡ true → xs ≡ ys
same_letters xs ys e = same_list_lem same_letter same_letter_lem xs ys e

-- ---- data and deliveries

abbrev pub same_datum : Datum → Datum → Bool
same_datum a b = eqb a.connection b.connection && same_bytes a.bytes b.bytes

same_datum_lem : (a b : Datum) → same_datum a b ≡ true → a ≡ b
same_datum_lem a b e =
    let p = both (eqb a.connection b.connection) _ e in
    let connection = eqb-true a.connection b.connection p.0 in
    let bytes = same_bytes_lem a.bytes b.bytes p.1 in
    λ i. record { connection = connection i; bytes = bytes i }

pub same_data : (xs ys : List Datum) → same_list same_datum xs ys ≡ true → xs ≡ ys
same_data xs ys e = same_list_lem same_datum same_datum_lem xs ys e

abbrev pub same_delivery : Delivery → Delivery → Bool
same_delivery a b =
    same_letter a.letter b.letter && (eqb a.connection b.connection && eqb a.time b.time)

same_delivery_lem : (a b : Delivery) → same_delivery a b ≡ true → a ≡ b
same_delivery_lem a b e =
    let p = both (same_letter a.letter b.letter) _ e in
    let q = both (eqb a.connection b.connection) _ p.1 in
    let letter = same_letter_lem a.letter b.letter p.0 in
    let connection = eqb-true a.connection b.connection q.0 in
    let time = eqb-true a.time b.time q.1 in
    λ i. record { letter = letter i; connection = connection i; time = time i }

pub same_deliveries : (xs ys : List Delivery) → same_list same_delivery xs ys ≡ true → xs ≡ ys
same_deliveries xs ys e = same_list_lem same_delivery same_delivery_lem xs ys e
