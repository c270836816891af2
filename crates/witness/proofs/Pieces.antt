-- The pieces, played by computation; what they print, by the claims of the script.
use mathlib.Core.Bool.{true, false, false≢true}
use mathlib.Core.Path.{refl}
use lib.Dec.{lit≤}
use Prim.Native.Nat.{◌-◌, ◌≤◌}
use lib.ListN.{length, take, drop}
use Rattle.judge.specs.Difference.{diff}
use Rattle.wire.specs.Message.{parse, encode, header_bytes}
use Rattle.rules.specs.Decide.{decide_of, on_event}
use Rattle.rules.specs.Perform.{performed}
use Rattle.rules.specs.Step.{effect_of, stepped}
use Rattle.script.specs.Example.{example}
use Rattle.script.specs.Forms.{record_in}
use Rattle.script.specs.Lines.{line_room, answer_line}
use Rattle.script.specs.Reply.{reply_to}
use Rattle.script.specs.Play.{played, played_by}
use Rattle.script.specs.Script.{at_first}
use Rattle.script.proofs.Claims.{pieces_print, last_piece_prints}
use Rattle.witness.specs.Pieces.{PlayedWhole, PlayedInPieces, NoRoomForALine}

pub played_whole : PlayedWhole
unfolding played_by reply_to record_in answer_line stepped effect_of decide_of on_event performed parse encode header_bytes diff
played_whole = let fits : line_room ≤ 1_000 - length (played true at_first example 1_000).text = lit≤ tt in (fits, last_piece_prints at_first example 1_000 fits)

pub played_in_pieces : PlayedInPieces
unfolding played_by reply_to record_in answer_line stepped effect_of decide_of on_event performed parse encode header_bytes diff
played_in_pieces =
    (refl, refl, pieces_print false at_first (take 40 example) (drop 40 example) 1_000 (λ last. absurd (false≢true last)))

pub no_room_for_a_line : NoRoomForALine
unfolding played_by
no_room_for_a_line = (refl, refl)
