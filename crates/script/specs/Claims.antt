-- What is claimed of scripts and their pieces. Proofs: proofs/Claims.antt.
use Rattle.std.specs.Prelude.{ℕ, ◌-◌, ◌≤◌, Bool, true, cond, List, [], ◌++◌, ◌≡◌, length, take, drop}
use Rattle.script.specs.Lines.{line_room}
use Rattle.script.specs.Feed.{Input, input_as, waiting, stops}
use Rattle.script.specs.Reply.{Held, held_as}
use Rattle.script.specs.Script.{printed_from}
use Rattle.script.specs.Play.{played}
use Rattle.script.specs.Promise.{ReplyResult, PlayResult, FeedResult, ReplyPromise, PlayPromise, FeedPromise}

-- ---- no second outcome fits

abbrev pub OneReply : Type 0
OneReply =
    (h : Held) (s text : List ℕ) (r t : ReplyResult) → ReplyPromise h s text r → ReplyPromise h s text t → r ≡ t

abbrev pub OnePlay : Type 0
OnePlay =
    (last : Bool) (h : Held) (s text : List ℕ) (r t : PlayResult) → PlayPromise last h s text r → PlayPromise last h s text t → r ≡ t

abbrev pub OneFeed : Type 0
OneFeed =
    (over : Bool) (h : Held) (i : Input) (text : List ℕ) (r t : FeedResult) → FeedPromise over h i text r → FeedPromise over h i text t → r ≡ t

-- ---- pieces of a script

-- what a piece printed, and then what its rest prints with all that follows it, is what the whole prints: a script may come in any
-- pieces, and the text may be as short as one likes
abbrev pub PiecesPrint : Type 0
PiecesPrint =
    (last : Bool) (h : Held) (s more : List ℕ) (room : ℕ) → (last ≡ true → more ≡ [])
    → let p = played last h s room in
    printed_from h (s ++ more) ≡ p.text ++ cond p.ended [] (printed_from p.held (drop p.used s ++ more))

-- the last piece prints all that is left, unless the text has no room for another line
abbrev pub LastPiecePrints : Type 0
LastPiecePrints =
    (h : Held) (s : List ℕ) (room : ℕ) → line_room ≤ room - length (played true h s room).text
    → (played true h s room).text ≡ printed_from h s

-- what is printed between two reads, and then what the bytes that are kept print with all that follows them, is what the bytes that
-- waited print with all that follows them; where the program stops, nothing is left to print
abbrev pub FeedPrints : Type 0
FeedPrints =
    (over : Bool) (h : Held) (i : Input) (text more : List ℕ) (r : FeedResult) → (over ≡ true → more ≡ []) → line_room ≤ length text
    → FeedPromise over h i text r
    → let kept = input_as r.buffer r.fed.start r.fed.end in
    let held = held_as r.fed.seat r.queue r.out in
    printed_from h (waiting i ++ more)
    ≡ take r.fed.wrote r.text ++ cond (stops r.fed.next) [] (printed_from held (waiting kept ++ more))
