-- The table of answers: the number of each, and what each leaves.
use Rattle.std.specs.Prelude.{ℕ}
use Rattle.rules.specs.declared.answer.Answer.{Answer}
use Rattle.rules.specs.declared.answer.Answer.TheVariants.{Handled, OutOfRange, ClockBack, NoRule, BadLength, QueueFull, Malformed, NotAwaited, StartFailed, Old, Lost, Late, Silent, Gap, NoRoom}

abbrev pub number_of : Answer → ℕ
number_of Handled = 0
number_of OutOfRange = 1
number_of ClockBack = 2
number_of NoRule = 3
number_of BadLength = 4
number_of QueueFull = 5
number_of Malformed = 6
number_of NotAwaited = 7
number_of StartFailed = 8
number_of Old = 9
number_of Lost = 10
number_of Late = 11
number_of Silent = 12
number_of Gap = 13
number_of NoRoom = 14

-- the last column of the table
pub data Leaving : Type 0 where
  as_ruled : Leaving
  no_end : Leaving
  everything : Leaving
  new_reading : Leaving
  down : Leaving
  -- an error report, and at E failures down
  error_report : Leaving
  -- delivered, then an error report
  delivered : Leaving

abbrev pub leaves_of : Answer → Leaving
leaves_of Handled = as_ruled
leaves_of OutOfRange = no_end
leaves_of ClockBack = everything
leaves_of NoRule = new_reading
leaves_of BadLength = new_reading
leaves_of QueueFull = new_reading
leaves_of Malformed = new_reading
leaves_of NotAwaited = new_reading
leaves_of StartFailed = down
leaves_of Old = error_report
leaves_of Lost = down
leaves_of Late = error_report
leaves_of Silent = down
leaves_of Gap = delivered
leaves_of NoRoom = everything
