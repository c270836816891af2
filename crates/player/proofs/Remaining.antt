-- Laws of the loop that plays: what is left of a piece after some turns.
use Prim.Native.Nat.{ℕ, ◌+◌, ◌-◌, ◌≤◌, ◌<◌}
use native.Mathlib.Omega.{arith}
use mathlib.Core.Bool.{Bool, true, false}
use mathlib.Core.List.{List, [], ◌++◌, append_assoc}
use mathlib.Core.Path.{◌≡◌, refl, ap, sym, subst, ◌∙◌}
use lib.ListN.{length, length-drop, take, drop}
use lib.Seq.{take_all}
use Rattle.script.specs.Forms.{size_in}
use Rattle.script.specs.Reply.{Held, Reply, reply_to}
use Rattle.script.specs.Play.{Piece, pauses, joined, played}
use Rattle.script.proofs.Whole.{has_size, is_whole}
use Rattle.script.proofs.Playing.{left, played_pauses, played_ends, played_goes}
use Rattle.player.specs.Puts.{room_of}
use Rattle.player.specs.Replying.{Leaves, Replies, PlaysPiece, held_by}
use Rattle.player.specs.declared.reply.Player.{Player}
use Rattle.player.proofs.Putting.{puts_nothing, puts_then}

-- n bytes were answered by the text w, and then the rest
abbrev behind : ℕ → List ℕ → Piece → Piece
behind n w rest = record { held = rest.held; text = w ++ rest.text; used = n + rest.used; ended = rest.ended }

-- what holds before every turn
pub record Going (last : Bool) (first : Player) (s : List ℕ) (now : Player) (rest : List ℕ) : Type 0 where
  pub used : ℕ
  pub text : List ℕ
  pub count : used + length rest ≡ length s
  pub leaves : Leaves (held_by now) text first now
  pub whole :
      played last (held_by first) s (room_of first.text.now) ≡ behind used text (played last (held_by now) rest (room_of now.text.now))

nothing_left : (p : Player) → Leaves (held_by p) [] p p
nothing_left p = record { out_lent = refl; q_lent = refl; text_lent = refl; held = refl; puts = puts_nothing }

leaves_then : (v w : List ℕ) {h k : Held} {p q r : Player} → Leaves h v p q → Leaves k w q r → Leaves k (v ++ w) p r
leaves_then v w a b =
    record {
      out_lent = b.out_lent ∙ a.out_lent;
      q_lent = b.q_lent ∙ a.q_lent;
      text_lent = b.text_lent ∙ a.text_lent;
      held = b.held;
      puts = puts_then v w a.puts b.puts;
    }

-- ---- one turn, by what was tested and what was replied

module _ {last : Bool} {first now : Player} {s rest : List ℕ} (so : Going last first s now rest) {room : ℕ} (room_is : room ≡ room_of now.text.now)
    {b : Bool} (test : b ≡ pauses last rest room) where
  abbrev piece : Piece
  piece = played last (held_by first) s (room_of first.text.now)

  tested : {c : Bool} → b ≡ c → pauses last rest (room_of now.text.now) ≡ c
  tested it = ap (pauses last rest) (sym room_is) ∙ sym test ∙ it

  -- nothing that is left is used
  it_stops : {end : Piece} {p : Player} → piece ≡ behind so.used so.text end → end.used ≡ 0 → Leaves end.held end.text now p
      → PlaysPiece piece first (length s - length rest) end.ended p
  it_stops {end} {p} is none leaves =
      subst (λ (x : Piece). PlaysPiece x first (length s - length rest) end.ended p) (sym is)
      (record { leaves = leaves_then so.text end.text so.leaves leaves; used = omega (arith, so.count, none); ended = refl })

  -- nothing more is answered
  pub it_pauses : b ≡ true → PlaysPiece piece first (length s - length rest) false now
  it_pauses stops =
      it_stops (so.whole ∙ ap (behind so.used so.text) (played_pauses last (held_by now) rest (room_of now.text.now) (tested stops))) refl (nothing_left now)

  module _ (goes : b ≡ false) {bad : Bool} {p : Player} (said : Replies (reply_to (held_by now) rest) now bad p) where
    abbrev told : Reply
    told = reply_to (held_by now) rest

    told_bad : {c : Bool} → bad ≡ c → told.bad ≡ c
    told_bad it = sym said.bad ∙ it

    -- a bad record ends it
    pub it_ends : bad ≡ true → PlaysPiece piece first (length s - length rest) true p
    it_ends is_bad =
        it_stops (so.whole ∙ ap (behind so.used so.text) (played_ends last (held_by now) rest (room_of now.text.now) (tested goes) (told_bad is_bad))) refl said.leaves

    module _ (good : bad ≡ false) {n : ℕ} (size : n ≡ size_in rest) where
      pub fits : n ≤ length rest
      fits = omega (arith, is_whole (held_by now) rest (told_bad good), size)

      -- one more record is answered
      goes_on : Going last first s p (drop n rest)
      goes_on =
          let here = room_of now.text.now in
          let later = left last (held_by now) rest here in
          let turn = played_goes last (held_by now) rest here (tested goes) (told_bad good) ∙ ap (λ (k : ℕ). joined k told later) (sym size) in
          let sum : so.used + (n + later.used) ≡ so.used + n + later.used = omega arith in
          let grouped : behind so.used so.text (joined n told later) ≡ behind (so.used + n) (so.text ++ told.text) later =
          λ i. record { held = later.held; text = sym (append_assoc so.text told.text later.text) i; used = sum i; ended = later.ended } in
          let less : here - length told.text ≡ room_of p.text.now = omega (arith, said.leaves.puts.put.next, said.leaves.puts.as_long) in
          let same : later ≡ played last (held_by p) (drop n rest) (room_of p.text.now) =
          ap (λ (k : ℕ). played last told.held (drop k rest) (here - length told.text)) (sym size)
          ∙ ap (played last told.held (drop n rest)) less
          ∙ ap (λ (h : Held). played last h (drop n rest) (room_of p.text.now)) (sym said.leaves.held) in
          let leaves = leaves_then so.text told.text so.leaves said.leaves in
          record {
            used = so.used + n;
            text = so.text ++ told.text;
            count = (let some = fits in omega (arith, so.count, some, length-drop n rest));
            leaves = record { out_lent = leaves.out_lent; q_lent = leaves.q_lent; text_lent = leaves.text_lent; held = refl; puts = leaves.puts };
            whole =
                so.whole ∙ ap (behind so.used so.text) turn ∙ grouped ∙ ap (behind (so.used + n) (so.text ++ told.text)) same;
          }

      same_rest : take (length rest - n) (drop n rest) ≡ drop n rest
      same_rest = take_all (length rest - n) (drop n rest) (omega (arith, length-drop n rest))

      pub it_goes : Going last first s p (take (length rest - n) (drop n rest))
      it_goes = subst (Going last first s p) (sym same_rest) goes_on

      pub it_shortens : length (take (length rest - n) (drop n rest)) < length rest
      it_shortens =
          let some = has_size (held_by now) rest (told_bad good) in
          let whole = fits in
          omega (arith, some, whole, size, ap length same_rest, length-drop n rest)
