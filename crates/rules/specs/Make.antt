-- How an end begins.
use Rattle.std.specs.Prelude.{ℕ, Bool, true, false, cond, Result, Err, Ok}
use Rattle.judge.specs.declared.clock.Reading.{Reading}
use Rattle.queue.specs.Ring.{empty_ring}
use Rattle.rules.specs.Answers.{number_of}
use Rattle.rules.specs.Settings.{in_range_of}
use Rattle.rules.specs.State.{blank_line, zero_reading}
use Rattle.rules.specs.declared.answer.Answer.{Answer}
use Rattle.rules.specs.declared.answer.Answer.TheVariants.{Handled, OutOfRange}
use Rattle.rules.specs.declared.settings.Settings.{Settings}
use Rattle.rules.specs.declared.state.Role.{Role}
use Rattle.rules.specs.declared.state.Role.TheVariants.{Initiator, Called}
use Rattle.rules.specs.declared.state.Life.TheVariants.{Idle}
use Rattle.rules.specs.declared.state.End.{End}

abbrev pub asks_at_once : Role → Bool
asks_at_once Initiator = true
asks_at_once Called = false

-- a fresh end is Idle, holds the reading that it was made with, and an initiator may ask at once
abbrev pub fresh_end : Role → Reading → Settings → End
fresh_end role at settings =
    record {
      settings = settings;
      line = blank_line;
      reading = at;
      asking = record { when = zero_reading; at_once = asks_at_once role };
      ring = empty_ring;
      role = role;
      life = Idle;
    }

-- what making an end comes to: the end, or the answer why there is none
abbrev pub Made : Type 0
Made = Result End Answer

-- answer 1: no end is made
abbrev pub made_of : Role → Reading → Settings → Made
made_of role at settings = cond (in_range_of settings) (Ok (fresh_end role at settings)) (Err OutOfRange)

-- the number of the answer to a make
abbrev pub made_number : Made → ℕ
made_number (Ok e) = number_of Handled
made_number (Err answer) = number_of answer
