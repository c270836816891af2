-- The claims of specs/Claims.antt, each proved.
use Prim.Native.Nat.{ℕ, suc, ◌+◌, ◌-◌, ◌%◌, min}
use native.Mathlib.Omega.{arith}
use mathlib.Core.Path.{◌≡◌, refl, ap, ap₂, sym, subst, ◌∙◌}
use mathlib.Core.List.{List, [], ◌∷◌, ◌++◌}
use lib.ListN.{length}
use lib.Seq.{sets, length-sets}
use Rattle.wire.proofs.Tests.{by_test}
use Rattle.queue.specs.Ring.{places, slot_start, slot_bytes, entries, oldest_in, waiting_in, data_from, has_place, Sendable}
use Rattle.queue.specs.Claims.{EmptyHasNone, PutComesLast, PutElseNothing, PutKeepsLength, TakesFirst, TakesNone, WaitingCounts, EntriesSendable, OldestSendable}
use Rattle.queue.proofs.Slots.{other_kept, stored_reads, place_sendable}
use Rattle.queue.proofs.Order.{accepted, refused, taken_none, taken_some, from_last, from_same, from_round, from_length, from_each}

pub empty_has_none : EmptyHasNone
empty_has_none q = refl

pub put_comes_last : PutComesLast
unfolding slot_bytes
put_comes_last q r d len free ok =
    let k = r.head in
    let n = waiting_in r in
    let p = sets q (slot_start (k + n)) (slot_bytes d) in
    let e = accepted q r d free ok in
    let f : min (n + 1) places ≡ suc n = omega arith in
    sym (ap₂ entries e.1 e.0)
    ∙ ap (data_from p k) f
    ∙ from_last p k n
    ∙ ap₂ (λ (l : List (List ℕ)) (x : List ℕ). l ++ (x ∷ [])) (from_same q p k n (λ i small. other_kept (slot_bytes d) q (k + i) (k + n) len (omega arith) (λ same. omega arith))) (stored_reads d q (slot_start (k + n)) (omega arith) ok)

pub put_else_nothing : PutElseNothing
put_else_nothing q r d h = let e = refused q r d h in (sym e.0, sym e.1)

pub put_keeps_length : PutKeepsLength
put_keeps_length q r d =
    by_test (λ (l : List ℕ). length l ≡ length q) (has_place r d)
    (λ _. length-sets q (slot_start (r.head + waiting_in r)) (slot_bytes d)) (λ _. refl)

pub takes_first : TakesFirst
takes_first q r some =
    let n = waiting_in r - 1 in
    let e : waiting_in r ≡ suc n = omega arith in
    let f : min n places ≡ n = omega arith in
    ap (data_from q r.head) e
    ∙ ap (λ (l : List (List ℕ)). oldest_in q r ∷ l)
    (from_round q (r.head + 1) ((r.head + 1) % places) n (omega arith) ∙ ap (data_from q ((r.head + 1) % places)) (sym f)
    ∙ ap (entries q) (taken_some r (omega arith)))

pub takes_none : TakesNone
takes_none r e = sym (taken_none r (omega arith))

pub waiting_counts : WaitingCounts
waiting_counts q r = from_length q r.head (waiting_in r)

pub entries_sendable : EntriesSendable
entries_sendable q r k len small =
    subst Sendable (sym (from_each q r.head (waiting_in r) k small)) (place_sendable q (r.head + k) len)

pub oldest_sendable : OldestSendable
oldest_sendable q r len = place_sendable q r.head len
