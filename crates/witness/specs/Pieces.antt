-- The example of the Sunday script, played in pieces.
use Rattle.std.specs.Prelude.{◌-◌, ◌≤◌, true, false, [], ◌++◌, ◌≡◌, length, take, drop}
use Rattle.script.specs.Example.{example}
use Rattle.script.specs.Play.{Piece, played}
use Rattle.script.specs.Lines.{line_room}
use Rattle.script.specs.Script.{at_first, printed_from}

-- all of it as the last piece, into a text of 1,000 bytes: there is room for another line afterwards, and it has printed everything
abbrev pub PlayedWhole : Type 0
PlayedWhole =
    (line_room ≤ 1_000 - length (played true at_first example 1_000).text)
    × ((played true at_first example 1_000).text ≡ printed_from at_first example)

-- its first 40 bytes: the make and a tick are answered, and the two bytes of a cut record wait for more
abbrev pub first_piece : Piece
first_piece = played false at_first (take 40 example) 1_000

abbrev pub PlayedInPieces : Type 0
PlayedInPieces =
    (first_piece.used ≡ 38) × (first_piece.ended ≡ false)
    × (printed_from at_first (take 40 example ++ drop 40 example)
    ≡ first_piece.text ++ printed_from first_piece.held (drop 38 (take 40 example) ++ drop 40 example))

-- a text too short for any line: nothing is answered, and nothing is used
abbrev pub NoRoomForALine : Type 0
NoRoomForALine = ((played true at_first example 295).used ≡ 0) × ((played true at_first example 295).text ≡ [])
