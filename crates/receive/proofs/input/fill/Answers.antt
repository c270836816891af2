use Rattle.std.proofs.Common.{◌≡◌, ℕ, ◌+◌, ◌≤◌, List, ◌++◌, rules, length, take, sym, subst, ap, ◌∙◌, length-take-le}
use Rattle.std.proofs.KnownBytes.{Consumes-trans}
use Rattle.std.proofs.Math.Seq.{take-append-add, take-append-le}
use Rattle.std.specs.Io.KnownBytes.{Consumes}
use borrow.Rule.Slice.PartMut.{put_mid, post_of}
use Rattle.receive.proofs.input.fill.Goals as goal

-- the first n + m bytes are the n that stood there, then the first m of those that came
take-put_mid-add : (n m k : ℕ) (xs ys : List ℕ) → n ≤ length xs → m ≤ length ys → take (n + m) (put_mid n k xs ys) ≡ take n xs ++ take m ys
take-put_mid-add n m k xs ys within fits =
    ap (λ l. take (l + m) (put_mid n k xs ys)) (sym (length-take-le n xs within))
    ∙ take-append-add (take n xs) (ys ++ post_of n k xs) m
    ∙ ap (λ l. take n xs ++ l) (take-append-le m ys (post_of n k xs) fits)

pub loop-filled-preserved : goal.loop-filled-preserved
loop-filled-preserved g c =
    let before = c.loop-filled.invariant in
    let front = take-put_mid-add c.loop-filled.filled c.in_ok-got.got _ c.loop-filled.buffer c.read.new.buf before.room c.in_ok-got.ensures.bound.0 in
    record { room = search rules; bytes = subst (Consumes _ _) (sym front) (Consumes-trans _ _ _ _ _ before.bytes c.in_ok-got.ensures.bytes.0) }
