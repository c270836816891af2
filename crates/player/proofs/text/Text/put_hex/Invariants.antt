-- The digits of the bytes so far are put.
use Rattle.std.proofs.Common.{◌≤◌, ◌+◌, ◌*◌, take}
use Rattle.script.specs.Words.{hex_of}
use Rattle.player.specs.Puts.{Puts, room_of}
use Rattle.player.proofs.text.Text.put_hex.Given as goal

abbrev pub invariant-loop-b : goal.invariant-loop-b
invariant-loop-b l =
    record {
      puts : Puts l.fn.self (hex_of (take l.b-index l.given)) l.self;
      room : room_of l.fn.self ≤ room_of l.self + 2 * l.b-index;
    }
