-- Every message that can be carried has room in the least output that an event asks for.
use Prim.Native.Nat.{ℕ, ◌+◌, ◌≤◌}
use native.Mathlib.Nat.{le_trans}
use native.Mathlib.Omega.{arith}
use mathlib.Core.Bool.{true}
use mathlib.Core.List.{List}
use mathlib.Core.Path.{◌≡◌, refl, sym}
use lib.Dec.{lit≤}
use lib.ListN.{length}
use Rattle.wire.proofs.Carrying.{carried_is}
use Rattle.wire.proofs.Over.{whole_length, with_room}
use Rattle.wire.specs.Message.{encode, body_bytes, kind_of}
use Rattle.wire.specs.Writing.{over, written, written_count, carries}
use Rattle.wire.specs.declared.message.Body.{Body}
use Rattle.wire.specs.declared.message.Body.TheVariants.{OffsetStart, OffsetAnsw1, OffsetAnsw2, OffsetEst, OffsetEnd, LifeSign, TrainData}
use Rattle.wire.specs.declared.message.Message.{Message}
use Rattle.rules.specs.Decide.{least_room}

body_fits : (b : Body) (d : List ℕ) → carries b d ≡ true → 15 + length (body_bytes b d) ≤ least_room
body_fits OffsetStart d ok = lit≤ tt
body_fits OffsetAnsw1 d ok = lit≤ tt
body_fits OffsetAnsw2 d ok = lit≤ tt
body_fits (OffsetEst minimum maximum) d ok = lit≤ tt
body_fits OffsetEnd d ok = lit≤ tt
body_fits LifeSign d ok = lit≤ tt
body_fits TrainData d ok =
    let few = (carried_is d ok).1 in omega arith

pub encode_fits : (m : Message) (d : List ℕ) → carries m.body d ≡ true → length (encode m d) ≤ least_room
unfolding encode
encode_fits m d ok =
    let len = whole_length (kind_of m.body) m.header (body_bytes m.body d) in
    let fits = body_fits m.body d ok in
    omega arith

-- with that room a message that can be carried is written whole
pub written_whole : (m : Message) (d out : List ℕ) → carries m.body d ≡ true → least_room ≤ length out
    → (written_count m d out ≡ length (encode m d)) × (written m d out ≡ over (encode m d) out)
written_whole m d out ok room =
    let w = with_room (encode m d) out (length (encode m d)) refl (le_trans (encode_fits m d ok) room) in
    rw ok (sym w.0, sym w.1)
