-- What a copy within a buffer moves to its front.
use Rattle.std.proofs.Common.{◌≡◌, ◌+◌, ◌-◌, ◌++◌, ℕ, List, sym, ap, ◌∙◌, min, length, length-drop, length-take, length-take-le, take, drop, arith}
use Rattle.std.proofs.lemmas.List.{drop-take, drop_min, take_min}
use Rattle.std.specs.List.{copy_within}
use lib.Seq.{sets, slice, sets-eq}

held : (s : List ℕ) (start end : ℕ) → let e = min end (length s) in let st = min start e in take (e - st) (drop st s) ≡ slice start end s
held s start end =
    let e = min end (length s) in
    let st = min start e in
    let whole : st + (e - st) ≡ e = omega arith in
    sym (drop-take st (e - st) s) ∙ ap (λ (n : ℕ). drop st (take n s)) whole ∙ ap (drop st) (take_min end s)
    ∙ ap (λ (n : ℕ). drop (min start n) (take end s)) (sym (length-take end s))
    ∙ drop_min start (take end s)

-- the bytes from the start to the end, each held to what there is
pub to_front : (s : List ℕ) (a b start end : ℕ) → b ≡ min end (length s) → a ≡ min start b → copy_within s a b 0 ≡ sets s 0 (slice start end s)
to_front s a b start end is_b is_a =
    let w = slice start end s in
    let is : take (b - a) (drop a s) ≡ w = rw (is_a, is_b) (held s start end) in
    let long : length w ≡ b - a = ap length (sym is) ∙ length-take-le (b - a) (drop a s) (omega (arith, length-drop a s, is_a, is_b)) in
    ap (λ (l : List ℕ). l ++ drop (0 + (b - a)) s) is ∙ ap (λ (n : ℕ). w ++ drop (0 + n) s) (sym long) ∙ sym (sets-eq w s 0 (omega (arith, long, is_a, is_b)))
