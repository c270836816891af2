-- What is printed between two reads, and what is kept: the claim FeedPrints of specs/Claims.antt.
use Prim.Native.Nat.{ℕ, zero, suc, ◌+◌, ◌≤◌}
use native.Mathlib.Omega.{arith}
use borrow.Author.Tests.{eqb-true}
use mathlib.Core.Bool.{Bool, true, false, cond, false≢true}
use mathlib.Core.List.{List, [], ◌∷◌, ◌++◌}
use mathlib.Core.Path.{◌≡◌, refl, ap, sym, subst, ◌∙◌}
use lib.Dec.{eqb}
use lib.ListN.{length, length-drop, take, drop}
use lib.Seq.{sets, sets-eq, take_at, drop-drop}
use Rattle.script.specs.Lines.{line_room}
use Rattle.script.specs.Reply.{Held, held_as, reply_to}
use Rattle.script.specs.Script.{printed_by, printed_from}
use Rattle.script.specs.Play.{Piece, pauses, played}
use Rattle.script.specs.Put.{Put}
use Rattle.script.specs.Feed.{Input, input_as, waiting, past_used, at_front, next_after, input_after, stops}
use Rattle.script.specs.Claims.{FeedPrints}
use Rattle.script.specs.declared.reply.Next.{Next}
use Rattle.script.specs.declared.reply.Next.TheVariants.{Again, Read, Stop}
use Rattle.script.proofs.Whole.{has_size}
use Rattle.script.proofs.Playing.{played_pauses, played_ends, played_goes}
use Rattle.script.proofs.Claims.{by_outcome, pieces_print, Stops, last_stops}

-- ---- what was put at the front of a text

take_shorter : (n : ℕ) (l : List ℕ) → length (take n l) ≤ length l
take_shorter zero l = omega arith
take_shorter (suc n) [] = omega arith
take_shorter (suc n) (x ∷ l) = let rest = take_shorter n l in omega (arith, rest)

front_taken : (w l : List ℕ) → length w ≤ length l → take (length w) (sets l 0 w) ≡ w
front_taken w l fits = ap (take (length w)) (sets-eq w l 0 (omega (arith, fits))) ∙ take_at w (drop (0 + length w) l) (length w) refl

pub printed_text : {before w after : List ℕ} {to : ℕ} → Put before 0 w after to → to ≤ length before → take to after ≡ w
printed_text {before} {w} {after} {to} put fits =
    let long : to ≡ length w = omega (arith, put.next) in
    ap (take to) put.stored ∙ ap (λ (k : ℕ). take k (sets before 0 w)) long ∙ front_taken w before (omega (arith, long, fits))

-- ---- what is kept

kept_past : (n : ℕ) (i : Input) → waiting (past_used n i) ≡ drop n (waiting i)
kept_past n i = sym (drop-drop n i.start (take i.end i.buffer))

waiting_fits : (i : Input) → length (waiting i) ≤ length i.buffer
waiting_fits i =
    omega (arith, length-drop i.start (take i.end i.buffer), take_shorter i.end i.buffer)

kept_front : (i : Input) → waiting (at_front i) ≡ waiting i
kept_front i = front_taken (waiting i) i.buffer (waiting_fits i)

-- ---- where nothing was used, nothing was printed

abbrev Silent : Piece → Type 0
Silent p = p.ended ≡ false → p.used ≡ 0 → p.text ≡ []

unused_silent : (last : Bool) (h : Held) (s : List ℕ) (room : ℕ) → Silent (played last h s room)
unused_silent last h s room =
    by_outcome (pauses last s room)
    (λ rests. subst Silent (sym (played_pauses last h s room rests)) (λ going none. refl))
    (λ goes. by_outcome (reply_to h s).bad
    (λ bad. subst Silent (sym (played_ends last h s room goes bad)) (λ going none. absurd (false≢true (sym going))))
    (λ good. subst Silent (sym (played_goes last h s room goes good)) (λ going none. absurd (omega (arith, none, has_size h s good)))))

nothing_printed : (h : Held) → printed_from h [] ≡ []
unfolding printed_by
nothing_printed h = refl

-- ---- what is still to be printed, by the tests that say what is next

module _ (over : Bool) (h : Held) (i : Input) (more : List ℕ) (room : ℕ) (complete : over ≡ true → more ≡ []) (space : line_room ≤ room) where
  abbrev p : Piece
  p = played over h (waiting i) room

  abbrev Print : List ℕ → List ℕ
  Print l = printed_from p.held (l ++ more)

  abbrev Rest : Bool → Next → Type 0
  Rest ended next = cond ended [] (Print (drop p.used (waiting i))) ≡ cond (stops next) [] (Print (waiting (input_after next p.used i)))

  none_left : over ≡ true → p.ended ≡ false → p.used ≡ 0 → drop p.used (waiting i) ≡ []
  none_left is going none =
      let silent = ap length (unused_silent over h (waiting i) room going none) in
      subst (λ (last : Bool). Stops (waiting i) room (played last h (waiting i) room)) (sym is)
      (last_stops (length (waiting i)) h (waiting i) room (omega arith)) going (omega (arith, space, silent))

  by_tests : (ended none o : Bool) → p.ended ≡ ended → eqb p.used 0 ≡ none → over ≡ o
      → Rest ended (cond ended Stop (cond none (cond o Stop Read) Again))
  by_tests true none o ends used is = refl
  by_tests false true true ends used is =
      ap Print (none_left is ends (eqb-true p.used 0 used)) ∙ ap (printed_from p.held) (complete is) ∙ nothing_printed p.held
  by_tests false true false ends used is =
      ap (λ (n : ℕ). Print (drop n (waiting i))) (eqb-true p.used 0 used) ∙ ap Print (sym (kept_front i))
  by_tests false false o ends used is = ap Print (sym (kept_past p.used i))

pub feed_prints : FeedPrints
feed_prints over h i text more r complete space f =
    let p = played over h (waiting i) (length text) in
    let next = next_after over p in
    let shown = take r.fed.wrote r.text in
    pieces_print over h (waiting i) more (length text) complete
    ∙ ap (λ (l : List ℕ). l ++ cond p.ended [] (printed_from p.held (drop p.used (waiting i) ++ more))) (sym (printed_text f.text f.fits))
    ∙ ap (λ (l : List ℕ). shown ++ l) (by_tests over h i more (length text) complete space p.ended (eqb p.used 0) over refl refl refl)
    ∙ ap (λ (n : Next). shown ++ cond (stops n) [] (printed_from p.held (waiting (input_after next p.used i) ++ more))) (sym f.next)
    ∙ ap (λ (k : Input). shown ++ cond (stops r.fed.next) [] (printed_from p.held (waiting k ++ more))) (sym f.input)
    ∙ (λ j. shown ++ cond (stops r.fed.next) [] (printed_from (held_as (sym f.seat j) (sym f.queue j) (sym f.out j)) (waiting (input_as r.buffer r.fed.start r.fed.end) ++ more)))
