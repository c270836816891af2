-- The hypotheses, computed; what follows, by the claims.
use Prim.Native.Nat.{ℕ, ◌<◌}
use mathlib.Core.List.{List, [], ◌∷◌}
use mathlib.Core.Path.{refl}
use lib.Dec.{lit<, lit≤}
use lib.ListN.{replicate}
use native.Mathlib.Omega.{arith}
use Rattle.queue.specs.Ring.{places, empty_ring, waiting_in, Sendable, slot_bytes, slot_data}
use Rattle.queue.specs.declared.Ring.{Ring}
use Rattle.queue.proofs.Claims.{put_comes_last, put_else_nothing, takes_first, takes_none, entries_sendable, oldest_sendable}
use Rattle.witness.specs.Queue.{second, noise, last_place, one_waits, holding_one, two_wait, holding_two, full, PutsNothing, SecondComesLast, FirstLeaves, SecondIsSendable, AnyBytesAreSendable, NoneLeaves, NothingIsPut}

pub second_comes_last : SecondComesLast
unfolding slot_bytes slot_data
second_comes_last =
    (refl, lit< tt, (lit≤ tt, lit≤ tt), refl, put_comes_last holding_one one_waits second refl (lit< tt) (lit≤ tt, lit≤ tt))

pub first_leaves : FirstLeaves
unfolding slot_bytes slot_data
first_leaves = (lit< tt, refl, refl, takes_first holding_two two_wait (lit< tt))

pub second_is_sendable : SecondIsSendable
unfolding slot_bytes slot_data
second_is_sendable = (refl, lit< tt, refl, entries_sendable holding_two two_wait 1 refl (lit< tt))

pub any_bytes_are_sendable : AnyBytesAreSendable
unfolding slot_data
any_bytes_are_sendable = (refl, refl, oldest_sendable noise empty_ring refl)

pub none_leaves : NoneLeaves
none_leaves = (refl, takes_none last_place refl)

pub nothing_is_put : NothingIsPut
nothing_is_put = (nothing full (1 ∷ []) (λ few _. omega arith), nothing one_waits [] (λ _ some. let low = some.0 in omega arith), nothing one_waits (replicate 101 1) (λ _ some. let high = some.1 in omega arith))
  where
    nothing : (r : Ring) (d : List ℕ) → (waiting_in r < places → Sendable d → ⊥) → PutsNothing r d
    nothing r d never = (never, put_else_nothing holding_one r d never)
