-- What is read is what `record_in` says, by the kind.
use Rattle.std.proofs.Common.{◌≡◌, ℕ, List, Option, None, Some, cond, nat_lt, length, get_or, sym, ap, lt-ltb, le-ltb, arith}
use Rattle.script.specs.Forms.{Form, form_of, record_in}
use Rattle.player.specs.Kinds.{form_as}
use Rattle.player.specs.declared.record.Kind.{Kind}
use Rattle.player.proofs.record.read_record.Goals as goal

by_kind : (s : List ℕ) (k : Option Kind) → form_as k ≡ form_of (get_or s 0 0)
    → record_in s ≡ cond (nat_lt (length s) (form_as k).whole) None ((form_as k).reads s)
unfolding record_in
by_kind s k is = ap (λ (f : Form). cond (nat_lt (length s) f.whole) None (f.reads s)) (sym is)

pub returns-in_err-kind : goal.returns-in_err-kind
returns-in_err-kind c =
    rw (by_kind c.args.s.now None c.in_err-kind.ensures, le-ltb (length c.args.s.now) 0 (omega arith)) c.from_residual.ensures

pub returns-then-s-size : goal.returns-then-s-size
returns-then-s-size c =
    rw (by_kind c.args.s.now (Some c.in_ok-kind.kind) c.in_ok-kind.ensures, ← c.size.ensures, lt-ltb _ _ c.if-s-size.true)

pub returns : goal.returns
returns c =
    rw (by_kind c.args.s.now (Some c.in_ok-kind.kind) c.in_ok-kind.ensures, ← c.size.ensures, le-ltb _ _ c.if-s-size.false) c.read.ensures
