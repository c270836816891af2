-- That each move of a run may be made, by one test of the whole run.
use Prim.Native.Nat.{ℕ, ◌+◌, ◌^◌, ◌≤◌}
use mathlib.Core.Bool.{Bool, true, false, not, cond, ◌&&◌, false≢true}
use mathlib.Core.List.{List, [], ◌∷◌}
use mathlib.Core.Logic.{◌⊎◌, inl, inr, ⊎_elim}
use mathlib.Core.Path.{◌≡◌, refl, ap}
use lib.Dec.{leb, ltb, eqb}
use borrow.Author.Tests.{leb-true, ltb-true, eqb-true, eqb-false}
use Rattle.pair.specs.Among.{Among}
use Rattle.pair.specs.World.{Letter, Side, World}
use Rattle.pair.specs.Channel.{MayHandOver}
use Rattle.run.specs.Events.{is_message, accepts}
use Rattle.pair.specs.Happening.{Happening, result_at}
use Rattle.pair.specs.Run.{Beginning, Move, Unanswered, Lawful, May, Run, begun, next, after}
use Rattle.pair.specs.Run.Move.{wait, at_left, at_right}
use Rattle.witness.specs.PairTable.{Row, moves_after, moves_in}
use Rattle.witness.specs.PairTable.Row.{left, right}
use Rattle.witness.proofs.PairSame.{both, same_letter, same_letter_lem}

-- ---- letters

abbrev pub is_among : Letter → List Letter → Bool
is_among x [] = false
is_among x (y ∷ ys) = cond (same_letter x y) true (is_among x ys)

cond-or : (a b : Bool) → cond a true b ≡ true → (a ≡ true) ⊎ (b ≡ true)
cond-or true b e = inl refl
cond-or false b e = inr e

among : (x : Letter) (ys : List Letter) → is_among x ys ≡ true → Among x ys
among x [] e = absurd (false≢true e)
among x (y ∷ ys) e =
    ⊎_elim (λ is. inl (same_letter_lem x y is)) (λ is. inr (among x ys is)) (cond-or (same_letter x y) (is_among x ys) e)

-- ---- the channel

abbrev pub may_hand_over : ℕ → Side → Side → Letter → Bool
may_hand_over time to from l =
    is_among l from.log
    && (eqb l.connection to.connection
    && (ltb time (l.time + 2 ^ 31)
    && (leb to.accepted (l.index + 1 + 32_768) && leb (l.index + 1) (to.accepted + 32_767))))

pub may_hand_over_lem : (time : ℕ) (to from : Side) (l : Letter) → may_hand_over time to from l ≡ true → MayHandOver time to from l
may_hand_over_lem time to from l e =
    let p = both (is_among l from.log) _ e in
    let q = both (eqb l.connection to.connection) _ p.1 in
    let s = both (ltb time (l.time + 2 ^ 31)) _ q.1 in
    let t = both (leb to.accepted (l.index + 1 + 32_768)) _ s.1 in
    record {
      was_sent = among l from.log p.0;
      same_connection = eqb-true l.connection to.connection q.0;
      soon = ltb-true time (l.time + 2 ^ 31) s.0;
      not_far_behind = leb-true to.accepted (l.index + 1 + 32_768) t.0;
      not_far_ahead = leb-true (l.index + 1) (to.accepted + 32_767) t.1;
    }

-- ---- asks

abbrev pub is_one_of : ℕ → List ℕ → Bool
is_one_of x [] = false
is_one_of x (y ∷ ys) = cond (eqb x y) true (is_one_of x ys)

cond_nor : (a b : Bool) → not (cond a true b) ≡ true → (a ≡ false) × (not b ≡ true)
cond_nor true b e = absurd (false≢true e)
cond_nor false b e = (refl, e)

none_of : (x : ℕ) (ys : List ℕ) → not (is_one_of x ys) ≡ true → Among x ys → ⊥
none_of x [] e i = elim i [ ]
none_of x (y ∷ ys) e (inl is) = eqb-false x y (cond_nor (eqb x y) (is_one_of x ys) e).0 is
none_of x (y ∷ ys) e (inr i) = none_of x ys (cond_nor (eqb x y) (is_one_of x ys) e).1 i

abbrev pub is_unanswered : ℕ → List ℕ → ℕ → Bool
is_unanswered asked answered ask = leb 1 ask && (leb ask asked && not (is_one_of ask answered))

is_unanswered_lem : (asked : ℕ) (answered : List ℕ) (ask : ℕ) → is_unanswered asked answered ask ≡ true → Unanswered asked answered ask
is_unanswered_lem asked answered ask e =
    let p = both (leb 1 ask) _ e in
    let q = both (leb ask asked) _ p.1 in
    record { some = leb-true 1 ask p.0; made = leb-true ask asked q.0; not_yet = none_of ask answered q.1 }

-- such an ask, or none
abbrev pub may_answer : World → ℕ → Bool
may_answer w ask = cond (eqb ask 0) true (is_unanswered w.asks w.answered ask)

may_answer_lem : (w : World) (ask : ℕ) → may_answer w ask ≡ true → (ask ≡ 0) ⊎ Unanswered w.asks w.answered ask
may_answer_lem w ask e =
    ⊎_elim (λ is. inl (eqb-true ask 0 is)) (λ is. inr (is_unanswered_lem w.asks w.answered ask is))
    (cond-or (eqb ask 0) (is_unanswered w.asks w.answered ask) e)

-- where all are answered, an accept answers none
pub only_none : (asked : ℕ) (answered : List ℕ) (ask : ℕ) → (1 ≤ ask → ask ≤ asked → Among ask answered)
    → (ask ≡ 0) ⊎ Unanswered asked answered ask → ask ≡ 0
only_none asked answered ask all (inl none) = none
only_none asked answered ask all (inr u) = absurd (u.not_yet (all u.some u.made))

-- ---- moves

-- where the first is true, so is the second
abbrev pub then : Bool → Bool → Bool
then a b = cond a b true

so_then : (a b : Bool) → then a b ≡ true → a ≡ true → b ≡ true
so_then true b e is = e
so_then false b e is = absurd (false≢true is)

abbrev pub is_lawful : World → Side → Side → Happening → Bool
is_lawful w own other c =
    then (is_message c.event) (may_hand_over w.time own other c.letter)
    && then (accepts (result_at w.time own c)) (may_answer w c.ask)

pub is_lawful_lem : (w : World) (own other : Side) (c : Happening) → is_lawful w own other c ≡ true → Lawful w own other c
is_lawful_lem w own other c e =
    let p = both (then (is_message c.event) (may_hand_over w.time own other c.letter)) _ e in
    record {
      hands_over = λ is. may_hand_over_lem w.time own other c.letter (so_then (is_message c.event) _ p.0 (ap is_message is));
      answers_ask = λ is. may_answer_lem w c.ask (so_then (accepts (result_at w.time own c)) _ p.1 is);
    }

abbrev pub may_move : World → Move → Bool
may_move w (wait n) = true
may_move w (at_left c) = is_lawful w w.left w.right c
may_move w (at_right c) = is_lawful w w.right w.left c

may_move_lem : (w : World) (m : Move) → may_move w m ≡ true → May w m
may_move_lem w (wait n) e = tt
may_move_lem w (at_left c) e = is_lawful_lem w w.left w.right c e
may_move_lem w (at_right c) e = is_lawful_lem w w.right w.left c e

-- ---- runs

abbrev pub runs : World → List Row → Bool
runs w [] = true
runs w (left n c answer outputs ∷ xs) =
    let v = next w (wait n) in may_move v (at_left c) && runs (next v (at_left c)) xs
runs w (right n c answer outputs ∷ xs) =
    let v = next w (wait n) in may_move v (at_right c) && runs (next v (at_right c)) xs

run_after : (b : Beginning) (ms : List Move) (xs : List Row) → Run b ms → runs (after b ms) xs ≡ true → Run b (moves_after ms xs)
unfolding after
run_after b ms [] run e = run
run_after b ms (left n c answer outputs ∷ xs) run e =
    let v = next (after b ms) (wait n) in
    let p = both (may_move v (at_left c)) (runs (next v (at_left c)) xs) e in
    run_after b (at_left c ∷ wait n ∷ ms) xs ((run, tt), may_move_lem v (at_left c) p.0) p.1
run_after b ms (right n c answer outputs ∷ xs) run e =
    let v = next (after b ms) (wait n) in
    let p = both (may_move v (at_right c)) (runs (next v (at_right c)) xs) e in
    run_after b (at_right c ∷ wait n ∷ ms) xs ((run, tt), may_move_lem v (at_right c) p.0) p.1

pub run_of : (b : Beginning) (xs : List Row) → runs (begun b) xs ≡ true → Run b (moves_in xs)
unfolding after
run_of b xs e = run_after b [] xs tt e
