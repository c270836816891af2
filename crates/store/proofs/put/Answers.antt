-- The length and the data behind it stand over the slot of the first free place.
use Rattle.std.proofs.Common.{◌≡◌, ℕ, ◌+◌, ◌-◌, ◌*◌, ◌%◌, ◌≤◌, List, length, take, drop, ap, ap₂, sym, ◌∙◌, length-take, length-drop, arith}
use Rattle.std.proofs.lemmas.Bool.Decides.{nat_tests}
use Rattle.std.proofs.lemmas.Grind.{common_steps}
use Rattle.std.proofs.lemmas.List.Edits.{sets}
use borrow.Rule.Slice.PartMut.{put_mid}
use Rattle.wire.specs.Bytes.{bytes_of}
use Rattle.wire.specs.Writing.{over}
use Rattle.queue.specs.Ring.{places, size, slot_size, slot_bytes, Sendable}
use Rattle.queue.proofs.Slots.{part_stored}
use Rattle.queue.proofs.Order.{accepted}
use Rattle.store.proofs.put.Goals as goal

filled : (d part : List ℕ) → 2 + length d ≤ length part
    → put_mid 2 (2 + length d - 2) (sets part 0 (bytes_of 2 (length d))) d ≡ over (slot_bytes d) part
unfolding slot_bytes
filled d part fits = grind (arith, common_steps)

-- the part of the queue from place n on
stored : (d q : List ℕ) (n k : ℕ) → n + k ≡ length q → 2 + length d ≤ k
    → put_mid n k q (put_mid 2 (2 + length d - 2) (sets (take k (drop n q)) 0 (bytes_of 2 (length d))) d) ≡ sets q n (slot_bytes d)
unfolding slot_bytes
stored d q n k is fits =
    let same : length q - n ≡ k = omega arith in
    let part = take k (drop n q) in
    let long : 2 + length d ≤ length part = rw (length-take, length-drop) (omega arith) in
    rw same at (part_stored (slot_bytes d) q (put_mid 2 (2 + length d - 2) (sets part 0 (bytes_of 2 (length d))) d) n (omega arith)
    (filled d part long ∙ ap (λ (j : ℕ). over (slot_bytes d) (take j (drop n q))) (sym same)))

pub returns-clause-q_after : goal.returns-clause-q_after
returns-clause-q_after c =
    let q = c.args.q.now in
    let d = c.args.d.now in
    let ok : Sendable d = grind (arith, nat_tests) in
    let start = c.place.result * slot_size in
    ap₂ (λ (s t : List ℕ). put_mid start (size - start) q (put_mid 2 (2 + length d - 2) s t)) c.write.ensures c.copy_from_slice.ensures.after
    ∙ stored d q start (size - start) (omega arith) (omega arith)
    ∙ ap (λ (i : ℕ). sets q (i * slot_size) (slot_bytes d)) (c.place.ensures.0 ∙ ap (λ (n : ℕ). (c.args.r.head + n) % places) c.waiting-count.ensures)
    ∙ (accepted q c.args.r d (omega arith) ok).1
