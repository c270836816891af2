-- What playing a piece of a script comes to: as far as it has whole records, and there is room for a line.
use Rattle.std.specs.Prelude.{ℕ, zero, suc, ◌+◌, ◌-◌, Bool, true, false, cond, not, ◌&&◌, ◌||◌, List, [], ◌++◌, eqb, ltb, length}
use Rattle.script.specs.Forms.{size_in, cut, following}
use Rattle.script.specs.Lines.{line_room}
use Rattle.script.specs.Reply.{Held, Reply, reply_to}

pub record Piece : Type 0 where
  pub held : Held
  pub text : List ℕ
  -- the bytes of the records that were answered
  pub used : ℕ
  -- a bad record has ended the script
  pub ended : Bool

-- the rest of a record is still to come; after the last piece nothing comes
abbrev pub unfinished : Bool → List ℕ → Bool
unfinished last s = not last && cut s

-- nothing is left, or a line may not fit, or the record is unfinished
abbrev pub pauses : Bool → List ℕ → ℕ → Bool
pauses last s room = eqb (length s) 0 || (ltb room line_room || unfinished last s)

abbrev pub unplayed : Held → Piece
unplayed h = record { held = h; text = []; used = 0; ended = false }

abbrev pub ended_by : Reply → Piece
ended_by r = record { held = r.held; text = r.text; used = 0; ended = true }

-- a reply to a record of n bytes, and then the rest
abbrev pub joined : ℕ → Reply → Piece → Piece
joined n r rest = record { held = rest.held; text = r.text ++ rest.text; used = n + rest.used; ended = rest.ended }

-- the record at the front, and then the rest
abbrev pub turn : Bool → Held → List ℕ → ℕ → Piece → Piece
turn last h s room rest =
    cond (pauses last s room) (unplayed h)
    (cond (reply_to h s).bad (ended_by (reply_to h s)) (joined (size_in s) (reply_to h s) rest))

-- so many records at most
unfoldable pub played_by : ℕ → Bool → Held → List ℕ → ℕ → Piece
played_by zero last h s room = unplayed h
played_by (suc n) last h s room =
    turn last h s room (played_by n last (reply_to h s).held (following s) (room - length (reply_to h s).text))

-- no piece of n bytes has more than n records
abbrev pub played : Bool → Held → List ℕ → ℕ → Piece
played last h s room = played_by (length s) last h s room
