-- What bytes that are put leave of a text.
use Rattle.std.specs.Prelude.{ℕ, ◌-◌, List, ◌≡◌, length}
use Rattle.script.specs.Put.{Put}
use Rattle.player.specs.declared.text.Text.{Text}

-- how many bytes may still be put
abbrev pub room_of : Text → ℕ
room_of t = length t.bytes.now - t.to

-- it is the same lent text, as long as before, and w was put into it from its place on
pub record Puts (before : Text) (w : List ℕ) (after : Text) : Type 0 where
  pub lent : after.bytes.ghost_name ≡ before.bytes.ghost_name
  pub as_long : length after.bytes.now ≡ length before.bytes.now
  pub put : Put before.bytes.now before.to w after.bytes.now after.to
