-- What is handed back is the oldest entry, and every entry can be sent.
use Rattle.std.proofs.Common.{◌≡◌, ℕ, ◌*◌, ◌/◌, ◌%◌, List, [], length, get_or, take, drop, ap, sym, subst, ◌∙◌, add-zero, arith, rules}
use Rattle.queue.specs.Ring.{places, slot_size, slot_data, oldest_in, Sendable}
use Rattle.queue.proofs.Claims.{oldest_sendable}
use Rattle.store.proofs.Chunks.{part_at}
use Rattle.store.proofs.oldest.Goals as goal

pub returns : goal.returns
returns c =
    let q = c.args.q.now in
    let same : c.place.result ≡ c.args.r.head % places = c.place.ensures.0 ∙ ap (λ (n : ℕ). n % places) (add-zero c.args.r.head) in
    let is : c.slot_data.result.now ≡ oldest_in q c.args.r =
    c.slot_data.ensures
    ∙ ap slot_data (
    ap (λ (slots : List (List ℕ)). get_or slots c.place.result []) c.as_chunks.ensures.front
    ∙ part_at slot_size (length q / slot_size) c.place.result q [] (omega arith)
    ∙ ap (λ (i : ℕ). take slot_size (drop (i * slot_size) q)) same
    ) in
    record { oldest = is; sendable = subst Sendable (sym is) (oldest_sendable q c.args.r (search rules)) }
