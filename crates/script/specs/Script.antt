-- What a whole script prints.
use Rattle.std.specs.Prelude.{ℕ, zero, suc, cond, List, [], ◌++◌, eqb, length, replicate, None}
use Rattle.queue.specs.Ring.{size}
use Rattle.rules.specs.Decide.{least_room}
use Rattle.script.specs.Forms.{following}
use Rattle.script.specs.Reply.{Held, Reply, reply_to}

-- a reply's line, and then the rest; a bad record ends the script
abbrev pub and_then : Reply → (Held → List ℕ) → List ℕ
and_then r rest = cond r.bad r.text (r.text ++ rest r.held)

-- so many records at most
unfoldable pub printed_by : ℕ → Held → List ℕ → List ℕ
printed_by zero h s = []
printed_by (suc n) h s =
    let rest : Held → List ℕ = λ k. printed_by n k (following s) in cond (eqb (length s) 0) [] (and_then (reply_to h s) rest)

-- no script of n bytes has more than n records
abbrev pub printed_from : Held → List ℕ → List ℕ
printed_from h s = printed_by (length s) h s

-- no end yet, a queue of zeros, and an output of the least room for every event
abbrev pub at_first : Held
at_first = record { seat = None; queue = replicate size 0; out = replicate least_room 0 }

-- from bytes to bytes
abbrev pub printed : List ℕ → List ℕ
printed s = printed_from at_first s
