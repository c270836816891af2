-- What an event shows to those outside: what happened, what was answered and what was put out. Nothing of an end is in it.
use Rattle.std.specs.Prelude.{ℕ, Bool, true, false, cond, List, [], ◌∷◌}
use Rattle.rules.specs.Answers.{number_of}
use Rattle.rules.specs.declared.answer.Answer.{Answer}
use Rattle.rules.specs.declared.act.Event.{Event}
use Rattle.rules.specs.declared.effect.Flags.{Flags}
use Rattle.rules.specs.declared.effect.Front.{Front}
use Rattle.run.specs.Run.{Entry}

pub record Seen : Type 0 where
  -- what happened
  pub event : Event
  -- what was answered
  pub answer : Answer
  -- the reports
  pub flags : Flags
  -- what stands at the front of the lent output, and the output's bytes
  pub front : Front
  pub out : List ℕ

abbrev pub seen_of : Entry → Seen
seen_of x =
    record {
      event = x.call.event;
      answer = x.result.outcome.answer;
      flags = x.result.outcome.flags;
      front = x.result.outcome.front;
      out = x.result.out;
    }

-- of a history, the newest first
unfoldable pub seen : List Entry → List Seen
seen [] = []
seen (x ∷ before) = seen_of x ∷ seen before

-- the number of the answer
abbrev pub number_in : Seen → ℕ
number_in x = number_of x.answer

abbrev pub counted : Bool → ℕ
counted it = cond it 1 0

-- ---- up and down: whether the last of these two reports was up

abbrev pub up_at_first : Bool
up_at_first = false

abbrev pub up_after : Flags → Bool → Bool
up_after flags before = cond flags.up true (cond flags.down false before)

unfoldable pub stands_up : List Seen → Bool
stands_up [] = up_at_first
stands_up (x ∷ before) = up_after x.flags (stands_up before)
