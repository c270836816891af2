-- What a player holds once it has replied to a record, or played a piece of a script.
use Rattle.std.specs.Prelude.{ℕ, Bool, List, ◌≡◌}
use Rattle.script.specs.Play.{Piece}
use Rattle.script.specs.Reply.{Held, Reply, held_as}
use Rattle.player.specs.Puts.{Puts}
use Rattle.player.specs.declared.reply.Player.{Player}

-- the end that is held, with the lent queue and output
abbrev pub held_by : Player → Held
held_by p = held_as p.seat p.q.now p.out.now

-- what is lent is the same, w was put behind the text, and this is held
pub record Leaves (h : Held) (w : List ℕ) (before after : Player) : Type 0 where
  pub out_lent : after.out.ghost_name ≡ before.out.ghost_name
  pub q_lent : after.q.ghost_name ≡ before.q.ghost_name
  pub text_lent : after.text.ghost_name ≡ before.text.ghost_name
  pub held : held_by after ≡ h
  pub puts : Puts before.text.now w after.text.now

-- the player gave this reply
pub record Replies (x : Reply) (before : Player) (is_bad : Bool) (after : Player) : Type 0 where
  pub leaves : Leaves x.held x.text before after
  pub bad : is_bad ≡ x.bad

-- the player played this piece
pub record PlaysPiece (p : Piece) (before : Player) (count : ℕ) (has_ended : Bool) (after : Player) : Type 0 where
  pub leaves : Leaves p.held p.text before after
  pub used : count ≡ p.used
  pub ended : has_ended ≡ p.ended
