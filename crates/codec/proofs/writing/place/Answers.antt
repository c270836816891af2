-- Without room nothing is written, and with room a header and the payload behind it.
use Rattle.std.proofs.Common.{◌≡◌, ◌∙◌, ap, List, ℕ, ◌+◌, ◌++◌, length, length-append, arith}
use Rattle.wire.specs.Message.{header_bytes, kind_of}
use Rattle.wire.specs.declared.message.Message.{Message}
use Rattle.wire.proofs.Over.{no_room, with_room, whole_length, header_length, part_over}
use Rattle.codec.proofs.writing.place.Goals as goal

-- a header, and the two parts of a payload
abbrev whole : Message → List ℕ → List ℕ → List ℕ
whole m a b = header_bytes (kind_of m.body) m.header ++ (a ++ b)

long : (m : Message) (a b : List ℕ) → length (whole m a b) ≡ 15 + (length a + length b)
long m a b = whole_length (kind_of m.body) m.header (a ++ b) ∙ ap (λ (n : ℕ). 15 + n) (length-append a b)

pub returns-then-out-size-clause-value : goal.returns-then-out-size-clause-value
returns-then-out-size-clause-value c =
    (no_room (whole c.args.m c.args.first.now c.args.then.now) c.args.out.now _ (long c.args.m c.args.first.now c.args.then.now) (omega arith)).0

pub returns-then-out-size-clause-out_after : goal.returns-then-out-size-clause-out_after
returns-then-out-size-clause-out_after c =
    (no_room (whole c.args.m c.args.first.now c.args.then.now) c.args.out.now _ (long c.args.m c.args.first.now c.args.then.now) (omega arith)).1

pub returns-clause-value : goal.returns-clause-value
returns-clause-value c =
    omega arith ∙ (with_room (whole c.args.m c.args.first.now c.args.then.now) c.args.out.now _ (long c.args.m c.args.first.now c.args.then.now) (omega arith)).0

pub returns-clause-out_after : goal.returns-clause-out_after
returns-clause-out_after c =
    let kind = kind_of c.args.m.body in
    part_over (header_bytes kind c.args.m.header) (c.args.first.now ++ c.args.then.now) c.args.out.now c.put_header.new.out c.put_payload.new.part 15 (header_length kind c.args.m.header) c.put_header.ensures c.put_payload.ensures
    ∙ (with_room (whole c.args.m c.args.first.now c.args.then.now) c.args.out.now _ (long c.args.m c.args.first.now c.args.then.now) (omega arith)).1
