-- What the functions that answer records promise, said once.
use Rattle.std.specs.Prelude.{ℕ, ◌+◌, ◌≤◌, Bool, List, ◌≡◌, length}
use Rattle.script.specs.Put.{Put}
use Rattle.script.specs.Lines.{line_room}
use Rattle.script.specs.Reply.{Held, Reply, reply_to}
use Rattle.script.specs.Play.{Piece, played}
use Rattle.script.specs.Feed.{Input, input_as, waiting, next_after, input_after}
use Rattle.script.specs.declared.reply.Fed.{Fed}
use Rattle.script.specs.declared.reply.Played.{Played}
use Rattle.script.specs.declared.reply.Replied.{Replied}

-- r tells the reply x: its line was put into the text `before` from place `at` on, and these are the queue and the output now
pub record Tells (x : Reply) (before : List ℕ) (at : ℕ) (r : Replied) (after queue' out' : List ℕ) : Type 0 where
  pub seat : r.seat ≡ x.held.seat
  pub queue : queue' ≡ x.held.queue
  pub out : out' ≡ x.held.out
  pub bad : r.bad ≡ x.bad
  pub text : Put before at x.text after r.to
  pub short : r.to ≤ at + line_room

-- r tells what playing a piece came to, whose lines stand at the front of the text
pub record Plays (p : Piece) (before : List ℕ) (r : Played) (after queue' out' : List ℕ) : Type 0 where
  pub seat : r.seat ≡ p.held.seat
  pub queue : queue' ≡ p.held.queue
  pub out : out' ≡ p.held.out
  pub used : r.used ≡ p.used
  pub ended : r.ended ≡ p.ended
  pub text : Put before 0 p.text after r.wrote

-- r tells what playing the bytes of an input came to, whose lines stand at the front of the text
pub record Feeds (over : Bool) (p : Piece) (before : List ℕ) (i : Input) (r : Fed) (after buffer' queue' out' : List ℕ) : Type 0 where
  pub seat : r.seat ≡ p.held.seat
  pub queue : queue' ≡ p.held.queue
  pub out : out' ≡ p.held.out
  pub next : r.next ≡ next_after over p
  pub input : input_as buffer' r.start r.end ≡ input_after (next_after over p) p.used i
  pub text : Put before 0 p.text after r.wrote
  pub fits : r.wrote ≤ length before

-- ---- all that a function hands back: its answer, and the lent text, queue and output afterwards; of `feed` the buffer too

pub record ReplyResult : Type 0 where
  pub replied : Replied
  pub text : List ℕ
  pub queue : List ℕ
  pub out : List ℕ

pub record PlayResult : Type 0 where
  pub played : Played
  pub text : List ℕ
  pub queue : List ℕ
  pub out : List ℕ

pub record FeedResult : Type 0 where
  pub fed : Fed
  pub buffer : List ℕ
  pub text : List ℕ
  pub queue : List ℕ
  pub out : List ℕ

-- what `reply` promises of a record at the front of s
abbrev pub ReplyPromise : Held → List ℕ → List ℕ → ReplyResult → Type 0
ReplyPromise h s text r = Tells (reply_to h s) text 0 r.replied r.text r.queue r.out

-- what `play` promises of a piece s
abbrev pub PlayPromise : Bool → Held → List ℕ → List ℕ → PlayResult → Type 0
PlayPromise last h s text r = Plays (played last h s (length text)) text r.played r.text r.queue r.out

-- what `feed` promises of an input
abbrev pub FeedPromise : Bool → Held → Input → List ℕ → FeedResult → Type 0
FeedPromise over h i text r =
    Feeds over (played over h (waiting i) (length text)) text i r.fed r.text r.buffer r.queue r.out
