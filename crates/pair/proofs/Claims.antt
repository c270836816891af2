-- The claims of specs/Order.antt, specs/Age.antt and specs/Users.antt, each from what holds after every run.
use Rattle.std.specs.Prelude.{Some}
use Prim.Native.Nat.{ℕ, ◌+◌, ◌-◌, ◌<◌}
use native.Mathlib.Omega.{arith}
use mathlib.Core.Bool.{Bool, true, false, cond}
use mathlib.Core.List.{List, [], ◌∷◌}
use mathlib.Core.Logic.{inl}
use mathlib.Core.Path.{◌≡◌, refl, sym, ap, subst, ◌∙◌}
use lib.ListN.{length, take}
use Rattle.wire.specs.Message.{parse}
use Rattle.wire.specs.declared.message.Header.{Header}
use Rattle.wire.specs.declared.message.Body.{Body}
use Rattle.wire.specs.declared.message.Message.{Message}
use Rattle.rules.specs.Claims.{answer_of}
use Rattle.rules.specs.declared.state.Life.TheVariants.{Up}
use Rattle.rules.specs.declared.effect.Front.{Front}
use Rattle.rules.specs.declared.effect.Front.TheVariants.{Datum as datum}
use Rattle.pair.specs.Among.{Among, Picked}
use Rattle.pair.specs.World.{Letter, Datum, Delivery, Side, World}
use Rattle.pair.specs.Channel.{MayHandOver}
use Rattle.pair.specs.Happening.{Happening, result_at}
use Rattle.pair.specs.Run.{Lawful, side_after, after}
use Rattle.pair.specs.Run.Move.{at_left, at_right}
use Rattle.pair.specs.Told.{received_with}
use Rattle.pair.specs.Order.{PlacesAreTheOrder, InOrder, DeliveredInOrder, Once, AtMostOnce, RightlyDelivered, OnlyOfThisConnection, NothingComesUnasked}
use Rattle.pair.specs.Age.{computed_age, shortfall, AgeBounded, AgeIsBounded, Timely, NothingOldDelivered, LateIndeed, LateIsNearlyOld}
use Rattle.pair.specs.Users.{TheUsers, DataAreTheUsers, UsersGetWhatUsersGave}
use Rattle.pair.proofs.Notes.{note_of, notes_of, note_reads, note_among, among_letter, placed_in_place}
use Rattle.pair.proofs.View.{view_of}
use Rattle.pair.proofs.Change.{has_offsets}
use Rattle.pair.proofs.Readable.{AllRead}
use Rattle.pair.proofs.Order.{Known}
use Rattle.pair.proofs.Clocks.{Young, aged}
use Rattle.pair.proofs.Users.{trains_of}
use Rattle.pair.proofs.Joined.{AllIn}
use Rattle.pair.proofs.EndToEnd.{user_to_user}
use Rattle.pair.proofs.Late.{late}
use Rattle.pair.proofs.Picked.{picked_among}
use Rattle.pair.proofs.Runs.{Whole, holds}

-- ---- at most once, and in the order of sending

pub places_are_the_order : PlacesAreTheOrder
places_are_the_order b sound ms run =
    let h = holds b sound ms run in
    let w = after b ms in
    (placed_in_place w.right.log h.right.order.sent.placed, placed_in_place w.left.log h.left.order.sent.placed)

pub delivered_in_order : DeliveredInOrder
delivered_in_order b sound ms run =
    let h = holds b sound ms run in (h.left.order.delivered.in_order, h.right.order.delivered.in_order)

once : (ds : List Delivery) → InOrder ds → Once ds
once [] order = tt
once (d ∷ ds) order =
    (λ e i same. (let less = order.0 e i in let p = ap (λ (l : Letter). l.place) same in omega arith), once ds order.1)

pub at_most_once : AtMostOnce
at_most_once b sound ms run =
    let w = after b ms in
    let so = delivered_in_order b sound ms run in
    (once w.left.delivered so.0, once w.right.delivered so.1)

rightly : (from : Side) (d : Delivery) → AllRead (notes_of from.log) → Known (notes_of from.log) d → RightlyDelivered from d
unfolding note_of
rightly from d all k =
    let m = (note_of d.letter).message in
    record {
      was_sent = among_letter from.log (note_of d.letter) k.was_sent;
      same_connection = k.same_connection;
      is_data = (m.header, m.body, (all (note_of d.letter) k.was_sent).reads, k.is_data);
    }

pub only_of_this_connection : OnlyOfThisConnection
only_of_this_connection b sound ms run =
    let h = holds b sound ms run in
    let w = after b ms in (
      λ d i. rightly w.right d h.right.readable.log (h.left.order.delivered.known d i),
      λ d i. rightly w.left d h.left.readable.log (h.right.order.delivered.known d i),
    )

unasked : (time : ℕ) (to from : Side) → AllIn (notes_of from.log) → to.connection ≡ 0 → (l : Letter) → MayHandOver time to from l → ⊥
unfolding note_of
unasked time to from all none l may =
    let some = all (note_of l) (note_among from.log l may.was_sent) in let same = may.same_connection in omega arith

pub nothing_comes_unasked : NothingComesUnasked
nothing_comes_unasked b sound ms run =
    let h = holds b sound ms run in
    let w = after b ms in
    (unasked w.time w.left w.right h.right.joined.log, unasked w.time w.right w.left h.left.joined.log)

-- ---- age

timely : (to : Side) (d : Delivery) → Young to.end.settings.age d → Timely to d
timely to d y = let old = y.not_too_old in record { sent_before = y.sent_before; not_too_old = omega arith }

pub nothing_old_delivered : NothingOldDelivered
nothing_old_delivered b sound ms run =
    let h = holds b sound ms run in
    let w = after b ms in
    (λ d i. timely w.left d (h.left.clocks.young d i), λ d i. timely w.right d (h.right.clocks.young d i))

-- one way
module _ (w : World) (to from : Side) (o : Whole w.time from.bias (notes_of from.log) (view_of to))
    (p : Whole w.time to.bias (notes_of to.log) (view_of from)) where
  bounded : (l : Letter) (h : Header) (body : Body) → MayHandOver w.time to from l → to.end.life ≡ Up
      → parse l.bytes ≡ Some (record { header = h; body = body }) → AgeBounded w to from l h
  unfolding note_of
  bounded l h body may up reads =
      let s = p.clocks.stamped (note_of l) (note_among from.log l may.was_sent) in
      let before = s.past in
      let is = (note_reads l (record { header = h; body = body }) reads).0 in
      let a = aged w.time from.bias (view_of to) l h (o.clocks.gauged (ap has_offsets up))
      (ap (λ (m : Message). m.header.stamps.sent.0) (sym is) ∙ s.stamp) before may.soon in
      let age : computed_age w to h ≡ (w.time - l.time) + a.late = a.age in
      let within = a.within in
      let short : shortfall to from ≡ a.late = a.short in
      record {
        sent_before = before;
        never_below = omega arith;
        little_above = omega arith;
        narrow = a.narrow;
        exactly = omega arith;
        held = omega arith;
      }

  late_indeed : (c : Happening) → Lawful w to from c → answer_of (result_at w.time to c) ≡ 11 → LateIndeed w to c
  late_indeed c lawful eleven =
      let s = late w.time to c eleven in
      let a = bounded c.letter s.header s.body (lawful.hands_over s.comes) s.lives s.reads in
      let old : to.end.settings.age < computed_age w to s.header = s.old in
      let above = a.little_above in
      record { comes = s.comes; sent_before = a.sent_before; not_young = omega arith }

pub age_is_bounded : AgeIsBounded
age_is_bounded b sound ms run =
    let h = holds b sound ms run in
    let w = after b ms in
    (bounded w w.left w.right h.left h.right, bounded w w.right w.left h.right h.left)

pub late_is_nearly_old : LateIsNearlyOld
late_is_nearly_old b sound ms run =
    let h = holds b sound ms run in
    let w = after b ms in
    (late_indeed w w.left w.right h.left h.right, late_indeed w w.right w.left h.right h.left)

-- ---- what is delivered is what was handed in

pub users_get_what_users_gave : UsersGetWhatUsersGave
users_get_what_users_gave b sound ms run =
    let h = holds b sound ms run in
    let x = view_of (after b ms).left in
    let y = view_of (after b ms).right in (
      user_to_user x y h.left.order h.right.order h.left.users h.right.users,
      user_to_user y x h.right.order h.left.order h.right.users h.left.users,
    )

-- what a user receives comes with a delivery
with_delivery : (t : Bool) (d : Delivery) (ds : List Delivery) (e : Datum) (got : List Datum) → got ≡ trains_of ds
    → e ∷ got ≡ trains_of (cond t (d ∷ ds) ds) → t ≡ true
with_delivery true d ds e got before after = refl
with_delivery false d ds e got before after =
    let same : length (e ∷ got) ≡ length got = ap length (after ∙ sym before) in absurd (omega arith)

-- data at the front of the output are received by the move that puts them there
module _ (w : World) (to from : Side) (c : Happening) (n : ℕ) where
  the_users : to.received ≡ trains_of to.delivered → (side_after w to c).received ≡ trains_of (side_after w to c).delivered
      → Picked (side_after w to c).received from.handed → (result_at w.time to c).outcome.front ≡ datum n → TheUsers w to from c n
  the_users before now picked front =
      record {
        delivered = with_delivery _ _ to.delivered _ to.received before (sym more ∙ now);
        handed_in =
            picked_among given (side_after w to c).received from.handed picked
            (subst (λ (l : List Datum). Among given l) (sym more) (inl refl));
      }
    where
      given : Datum
      given = record { connection = to.connection; bytes = take n (result_at w.time to c).out }

      more : (side_after w to c).received ≡ given ∷ to.received
      more = ap (λ (f : Front). received_with f (result_at w.time to c).out to.connection to.received) front

pub data_are_the_users : DataAreTheUsers
unfolding after
data_are_the_users b sound ms run =
    let h = holds b sound ms run in
    let w = after b ms in (
      λ c n lawful. (let on = holds b sound (at_left c ∷ ms) (run, lawful) in
          the_users w w.left w.right c n h.left.users.got on.left.users.got
          (users_get_what_users_gave b sound (at_left c ∷ ms) (run, lawful)).0),
      λ c n lawful. (let on = holds b sound (at_right c ∷ ms) (run, lawful) in
          the_users w w.right w.left c n h.right.users.got on.right.users.got
          (users_get_what_users_gave b sound (at_right c ∷ ms) (run, lawful)).1),
    )
