-- From one user to the other: what was delivered was picked from the log, and that from what was handed in.
use Prim.Native.Nat.{ℕ, ◌<◌}
use native.Mathlib.Omega.{arith}
use mathlib.Core.List.{List, [], ◌∷◌}
use mathlib.Core.Logic.{inl, inr}
use mathlib.Core.Path.{◌≡◌, refl, sym, ap, subst}
use lib.ListN.{length}
use Rattle.pair.specs.Among.{Among, Picked}
use Rattle.pair.specs.World.{Datum, Delivery}
use Rattle.pair.specs.Order.{InOrder}
use Rattle.pair.proofs.Notes.{Note, note_of, Placed}
use Rattle.pair.proofs.Picked.{picked_none, picked_trans, picked_both, picked_skip}
use Rattle.pair.proofs.View.{View, datum_of}
use Rattle.pair.proofs.Change.{is_train}
use Rattle.pair.proofs.Order.{Order, Known, placed_below}
use Rattle.pair.proofs.Users.{Users, trains_in, trains_of, sent_only}

-- what stands below the newest letter stands in the rest
known_below : (n : Note) (log : List Note) (d : Delivery) → n.letter.place ≡ length log → d.letter.place < length log
    → Known (n ∷ log) d → Known log d
unfolding note_of
known_below n log d is low k = record { was_sent = go k.was_sent; same_connection = k.same_connection; is_data = k.is_data }
  where
    go : Among (note_of d.letter) (n ∷ log) → Among (note_of d.letter) log
    go (inl same) = let p = ap (λ (m : Note). m.letter.place) same in absurd (omega arith)
    go (inr i) = i

abbrev AllKnown : List Note → List Delivery → Type 0
AllKnown log ds = (d : Delivery) → Among d ds → Known log d

abbrev PickedFrom : List Note → List Delivery → Type 0
PickedFrom log ds = Picked (trains_of ds) (trains_in log)

-- the newest delivery is of the newest letter, or of an older one, and then all are
pick_one : (n : Note) (log : List Note) (d : Delivery) (ds : List Delivery) → n.letter.place ≡ length log → Placed log
    → ((e : Delivery) → Among e ds → e.letter.place < d.letter.place) → AllKnown (n ∷ log) (d ∷ ds)
    → (AllKnown log ds → PickedFrom log ds) → (AllKnown log (d ∷ ds) → PickedFrom log (d ∷ ds))
    → Among (note_of d.letter) (n ∷ log) → PickedFrom (n ∷ log) (d ∷ ds)
unfolding note_of
pick_one n log d ds is places last known rest all (inl same) =
    subst (λ (m : Note). PickedFrom (m ∷ log) (d ∷ ds)) same
    (picked_both (is_train (note_of d.letter).message.body) (datum_of d.connection (note_of d.letter).train)
    (datum_of d.letter.connection (note_of d.letter).train) (trains_of ds) (trains_in log)
    (ap (λ (c : ℕ). datum_of c (note_of d.letter).train) (sym (known d (inl refl)).same_connection))
    (rest (λ e i. known_below n log e is (low e i) (known e (inr i)))))
  where
    low : (e : Delivery) → Among e ds → e.letter.place < length log
    low e i = let p = ap (λ (m : Note). m.letter.place) same in let q = last e i in omega arith
pick_one n log d ds is places last known rest all (inr older) =
    picked_skip (is_train n.message.body) (datum_of n.letter.connection n.train) (trains_of (d ∷ ds)) (trains_in log)
    (all (λ e i. known_below n log e is (low e i) (known e i)))
  where
    low : (e : Delivery) → Among e (d ∷ ds) → e.letter.place < length log
    low e (inl same) =
        let p = ap (λ (m : Delivery). m.letter.place) same in let q = placed_below log places (note_of d.letter) older in omega arith
    low e (inr i) = let p = last e i in let q = placed_below log places (note_of d.letter) older in omega arith

picked_from : (log : List Note) → Placed log → (ds : List Delivery) → InOrder ds → AllKnown log ds → PickedFrom log ds
picked_from [] places [] order known = refl
picked_from [] places (d ∷ ds) order known = absurd (known d (inl refl)).was_sent
picked_from (n ∷ log) places [] order known = picked_none (trains_in (n ∷ log))
picked_from (n ∷ log) places (d ∷ ds) order known =
    pick_one n log d ds places.0 places.1 order.0 known (picked_from log places.1 ds order.1)
    (picked_from log places.1 (d ∷ ds) order) (known d (inl refl)).was_sent

-- from one user to the other
pub user_to_user : (x y : View) → Order x y.story.log → Order y x.story.log → Users x → Users y
    → Picked x.user.received y.user.handed
user_to_user x y o p f g =
    subst (λ (l : List Datum). Picked l y.user.handed) (sym f.got)
    (picked_trans (trains_of x.story.delivered) (trains_in y.story.log) y.user.handed
    (picked_from y.story.log p.sent.placed x.story.delivered o.delivered.in_order o.delivered.known) (sent_only y g))
