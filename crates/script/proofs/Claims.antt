-- The claims of specs/Claims.antt: no second outcome fits, and pieces print what the whole prints.
use Prim.Native.Nat.{ℕ, zero, suc, ◌+◌, ◌-◌, ◌≤◌, ◌<◌}
use native.Mathlib.Nat.{eq-zero-or-pos}
use native.Mathlib.Omega.{arith}
use borrow.Author.Tests.{eqb-false, le-ltb, ne_eqb}
use mathlib.Core.Bool.{Bool, true, false, cond, ◌||◌, false≢true}
use mathlib.Core.List.{List, [], ◌∷◌, ◌++◌, append_assoc, append-nil}
use mathlib.Core.Logic.{⊎_elim}
use mathlib.Core.Path.{◌≡◌, refl, ap, sym, subst, ◌∙◌}
use lib.Dec.{eqb, ltb}
use lib.ListN.{length, length-append, drop}
use lib.Seq.{drop-drop}
use Rattle.wire.proofs.Tests.{by_test}
use Rattle.script.specs.Forms.{size_in, following}
use Rattle.script.specs.Lines.{line_room}
use Rattle.script.specs.Reply.{Held, Reply, reply_to}
use Rattle.script.specs.Put.{Put}
use Rattle.script.specs.Script.{and_then, printed_by, printed_from}
use Rattle.script.specs.Play.{Piece, unfinished, pauses, ended_by, joined, played}
use Rattle.script.specs.Claims.{OneReply, OnePlay, OneFeed, PiecesPrint, LastPiecePrints}
use Rattle.script.proofs.Whole.{is_whole, reply_same, following_same}
use Rattle.script.proofs.Playing.{rest_shorter, left, played_pauses, played_ends, played_goes, both_false}

-- ---- no second outcome fits

one_text : {before w a b : List ℕ} {at m n : ℕ} → Put before at w a m → Put before at w b n → (a ≡ b) × (m ≡ n)
one_text p q = (p.stored ∙ sym q.stored, p.next ∙ sym q.next)

pub one_reply : OneReply
one_reply h s text r t p q =
    let seat = p.seat ∙ sym q.seat in
    let bad = p.bad ∙ sym q.bad in
    let put = one_text p.text q.text in
    λ i. record {
      replied = record { seat = seat i; to = put.1 i; bad = bad i };
      text = put.0 i;
      queue = (p.queue ∙ sym q.queue) i;
      out = (p.out ∙ sym q.out) i;
    }

pub one_play : OnePlay
one_play last h s text r t p q =
    let seat = p.seat ∙ sym q.seat in
    let used = p.used ∙ sym q.used in
    let ended = p.ended ∙ sym q.ended in
    let put = one_text p.text q.text in
    λ i. record {
      played = record { seat = seat i; used = used i; wrote = put.1 i; ended = ended i };
      text = put.0 i;
      queue = (p.queue ∙ sym q.queue) i;
      out = (p.out ∙ sym q.out) i;
    }

pub one_feed : OneFeed
one_feed over h i text r t p q =
    let seat = p.seat ∙ sym q.seat in
    let next = p.next ∙ sym q.next in
    let input = p.input ∙ sym q.input in
    let put = one_text p.text q.text in
    λ j. record {
      fed = record { seat = seat j; wrote = put.1 j; start = (input j).start; end = (input j).end; next = next j };
      buffer = (input j).buffer;
      text = put.0 j;
      queue = (p.queue ∙ sym q.queue) j;
      out = (p.out ∙ sym q.out) j;
    }

-- ---- what a script prints, record by record

same_print : (a : Bool) (r : Reply) (f g : Held → List ℕ) → (r.bad ≡ false → f r.held ≡ g r.held)
    → cond a [] (and_then r f) ≡ cond a [] (and_then r g)
same_print true r f g is = refl
same_print false r f g is =
    by_test (λ (l : List ℕ). l ≡ and_then r g) r.bad (λ bad. rw bad refl) (λ good. rw (good, is good) refl)

enough : (n m : ℕ) (h : Held) (s : List ℕ) → length s ≤ n → length s ≤ m → printed_by n h s ≡ printed_by m h s
unfolding printed_by
enough zero zero h s p q = refl
enough zero (suc m) h [] p q = refl
enough zero (suc m) h (x ∷ s) p q = absurd (omega arith)
enough (suc n) zero h [] p q = refl
enough (suc n) zero h (x ∷ s) p q = absurd (omega arith)
enough (suc n) (suc m) h s p q =
    same_print (eqb (length s) 0) (reply_to h s) (λ (k : Held). printed_by n k (following s)) (λ (k : Held). printed_by m k (following s))
    (λ good. enough n m (reply_to h s).held (following s) (rest_shorter h s n good p) (rest_shorter h s m good q))

not_empty : (n : ℕ) → 0 < n → eqb n 0 ≡ false
not_empty n some = ne_eqb n 0 (λ none. omega (arith, none, some))

module _ (h : Held) where
  printed_ends : (s : List ℕ) → 0 < length s → (reply_to h s).bad ≡ true → printed_from h s ≡ (reply_to h s).text
  unfolding printed_by
  printed_ends [] some bad = absurd (omega arith)
  printed_ends (x ∷ s) some bad = rw (not_empty (suc (length s)) some, bad) refl

  printed_goes : (s : List ℕ) → 0 < length s → (reply_to h s).bad ≡ false
      → printed_from h s ≡ (reply_to h s).text ++ printed_from (reply_to h s).held (following s)
  unfolding printed_by
  printed_goes [] some good = absurd (omega arith)
  printed_goes (x ∷ s) some good =
      let rest = following (x ∷ s) in
      rw (not_empty (suc (length s)) some, good) (ap (λ (l : List ℕ). (reply_to h (x ∷ s)).text ++ l)
      (enough (length s) (length rest) (reply_to h (x ∷ s)).held rest (rest_shorter h (x ∷ s) (length s) good (omega arith)) (omega arith)))

-- ---- a piece, and then the rest

pub by_outcome : {P : Type 0} (b : Bool) → (b ≡ true → P) → (b ≡ false → P) → P
by_outcome true t f = t refl
by_outcome false t f = f refl

module _ (last : Bool) (more : List ℕ) (complete : last ≡ true → more ≡ []) where
  -- the test that lets a turn go on
  goes_some : (s : List ℕ) (room : ℕ) → pauses last s room ≡ false → 0 < length s
  goes_some s room goes =
      let none = eqb-false (length s) 0 (both_false (eqb (length s) 0) (ltb room line_room || unfinished last s) goes).0 in
      ⊎_elim (λ empty. absurd (none empty)) (λ some. some) (eq-zero-or-pos (length s))

  goes_whole : (s : List ℕ) (room : ℕ) → pauses last s room ≡ false → unfinished last s ≡ false
  goes_whole s room goes =
      (both_false (ltb room line_room) (unfinished last s)
      (both_false (eqb (length s) 0) (ltb room line_room || unfinished last s) goes).1).1

  -- more bytes do not change the reply: either there are none, or the record is whole
  replies_same : (b : Bool) → last ≡ b → (h : Held) (s : List ℕ) → 0 < length s → unfinished b s ≡ false → reply_to h (s ++ more) ≡ reply_to h s
  replies_same true is h s some whole = ap (λ (l : List ℕ). reply_to h (s ++ l)) (complete is) ∙ ap (reply_to h) (append-nil s)
  replies_same false is h s some whole = reply_same s more some h whole

  abbrev Prints : Held → List ℕ → Piece → Type 0
  Prints h s p = printed_from h (s ++ more) ≡ p.text ++ cond p.ended [] (printed_from p.held (drop p.used s ++ more))

  module _ (h : Held) (s : List ℕ) (room : ℕ) (goes : pauses last s room ≡ false) where
    same : reply_to h (s ++ more) ≡ reply_to h s
    same = replies_same last refl h s (goes_some s room goes) (goes_whole s room goes)

    some_more : 0 < length (s ++ more)
    some_more = omega (arith, goes_some s room goes, length-append s more)

    ends_prints : (reply_to h s).bad ≡ true → Prints h s (ended_by (reply_to h s))
    ends_prints bad =
        printed_ends h (s ++ more) some_more (ap (λ (r : Reply). r.bad) same ∙ bad)
        ∙ ap (λ (r : Reply). r.text) same
        ∙ sym (append-nil (reply_to h s).text)

    rest_same : (reply_to h s).bad ≡ false → following (s ++ more) ≡ following s ++ more
    rest_same good = following_same s more (goes_some s room goes) (is_whole h s good)

    goes_prints : (p : Piece) → (reply_to h s).bad ≡ false → Prints (reply_to h s).held (following s) p
        → Prints h s (joined (size_in s) (reply_to h s) p)
    goes_prints p good rest =
        let text = (reply_to h s).text in
        let after : List ℕ → List ℕ = λ l. cond p.ended [] (printed_from p.held (l ++ more)) in
        printed_goes h (s ++ more) some_more (ap (λ (r : Reply). r.bad) same ∙ good)
        ∙ ap (λ (r : Reply). r.text ++ printed_from r.held (following (s ++ more))) same
        ∙ ap (λ (l : List ℕ). text ++ printed_from (reply_to h s).held l) (rest_same good)
        ∙ ap (λ (l : List ℕ). text ++ l) rest
        ∙ ap (λ (l : List ℕ). text ++ (p.text ++ after l)) (drop-drop p.used (size_in s) s)
        ∙ sym (append_assoc text p.text (after (drop (size_in s + p.used) s)))

  one_turn : (h : Held) (s : List ℕ) (room : ℕ)
      → (pauses last s room ≡ false → (reply_to h s).bad ≡ false → Prints (reply_to h s).held (following s) (left last h s room))
      → Prints h s (played last h s room)
  one_turn h s room later =
      by_outcome (pauses last s room)
      (λ rests. subst (Prints h s) (sym (played_pauses last h s room rests)) refl)
      (λ goes. by_outcome (reply_to h s).bad
      (λ bad. subst (Prints h s) (sym (played_ends last h s room goes bad)) (ends_prints h s room goes bad))
      (λ good. subst (Prints h s) (sym (played_goes last h s room goes good))
      (goes_prints h s room goes (left last h s room) good (later goes good))))

  prints : (n : ℕ) (h : Held) (s : List ℕ) (room : ℕ) → length s ≤ n → Prints h s (played last h s room)
  prints zero h s room fits = one_turn h s room (λ goes good. absurd (omega (arith, goes_some s room goes, fits)))
  prints (suc n) h s room fits =
      one_turn h s room
      (λ goes good. prints n (reply_to h s).held (following s) (room - length (reply_to h s).text) (rest_shorter h s n good fits))

pub pieces_print : PiecesPrint
pieces_print last h s more room complete = prints last more complete (length s) h s room (omega arith)

-- ---- the last piece

-- the last piece stops at a bad record, for want of room, or where nothing is left
abbrev pub Stops : List ℕ → ℕ → Piece → Type 0
Stops s room p = p.ended ≡ false → line_room ≤ room - length p.text → drop p.used s ≡ []

neither : (a b : Bool) → a ≡ false → b ≡ false → a || (b || false) ≡ false
neither a b p q = rw (p, q) refl

last_turn : (h : Held) (s : List ℕ) (room : ℕ)
    → (pauses true s room ≡ false → (reply_to h s).bad ≡ false → Stops (following s) (room - length (reply_to h s).text) (left true h s room))
    → Stops s room (played true h s room)
last_turn h s room later =
    by_outcome (pauses true s room)
    (λ rests. subst (Stops s room) (sym (played_pauses true h s room rests)) (λ going space. nothing_left s room rests space))
    (λ goes. by_outcome (reply_to h s).bad
    (λ bad. subst (Stops s room) (sym (played_ends true h s room goes bad)) (λ going space. absurd (false≢true (sym going))))
    (λ good. subst (Stops s room) (sym (played_goes true h s room goes good)) (further (later goes good))))
  where
    nothing_left : (s : List ℕ) (room : ℕ) → pauses true s room ≡ true → line_room ≤ room - 0 → drop 0 s ≡ []
    nothing_left [] room rests space = refl
    nothing_left (x ∷ s) room rests space =
        absurd (false≢true (sym (neither (eqb (suc (length s)) 0) (ltb room line_room) (not_empty (suc (length s)) (omega arith)) (le-ltb room line_room (omega (arith, space)))) ∙ rests))

    further : Stops (following s) (room - length (reply_to h s).text) (left true h s room)
        → Stops s room (joined (size_in s) (reply_to h s) (left true h s room))
    further stops going space =
        let p = left true h s room in
        sym (drop-drop p.used (size_in s) s)
        ∙ stops going (omega (arith, space, length-append (reply_to h s).text p.text))

pub last_stops : (n : ℕ) (h : Held) (s : List ℕ) (room : ℕ) → length s ≤ n → Stops s room (played true h s room)
last_stops zero h s room fits = last_turn h s room (λ goes good. absurd (omega (arith, goes_some true [] (λ is. refl) s room goes, fits)))
last_stops (suc n) h s room fits =
    last_turn h s room
    (λ goes good. last_stops n (reply_to h s).held (following s) (room - length (reply_to h s).text) (rest_shorter h s n good fits))

then_nothing : (h : Held) (l : List ℕ) → l ++ printed_from h [] ≡ l
unfolding printed_by
then_nothing h l = append-nil l

pub last_piece_prints : LastPiecePrints
last_piece_prints h s room space =
    let p = played true h s room in
    sym (sym (ap (printed_from h) (append-nil s)) ∙ pieces_print true h s [] room (λ is. refl) ∙ rest p.ended refl)
  where
    rest : (b : Bool) → (played true h s room).ended ≡ b
        → (played true h s room).text ++ cond (played true h s room).ended [] (printed_from (played true h s room).held (drop (played true h s room).used s ++ []))
        ≡ (played true h s room).text
    rest true is = rw is (append-nil (played true h s room).text)
    rest false is =
        rw is (ap (λ (l : List ℕ). (played true h s room).text ++ printed_from (played true h s room).held (l ++ [])) (last_stops (length s) h s room (omega arith) is space) ∙ then_nothing (played true h s room).held (played true h s room).text)
