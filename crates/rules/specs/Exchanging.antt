-- The messages of the clock start go out, and lives begin.
use Rattle.judge.specs.declared.clock.Reading.{Reading}
use Rattle.wire.specs.declared.message.Body.{Body}
use Rattle.wire.specs.declared.message.Message.{Message}
use Rattle.rules.specs.Line.{with_offsets, with_began, accepted_line, posted_line, sent_line, risen_line, header_by}
use Rattle.rules.specs.Ends.{moved_end, no_flags, up_flag}
use Rattle.rules.specs.declared.answer.Answer.TheVariants.{Handled}
use Rattle.rules.specs.declared.act.Exchange.{Exchange}
use Rattle.rules.specs.declared.act.Exchange.TheVariants.{Begin, Greet, Measure, Estimate, Finish, Rise}
use Rattle.rules.specs.declared.act.Measurement.{Measurement}
use Rattle.rules.specs.declared.state.Life.{Life}
use Rattle.rules.specs.declared.state.Life.TheVariants.{Opening, Settling, Answering, Closing, Up}
use Rattle.rules.specs.declared.state.Line.{Line}
use Rattle.rules.specs.declared.state.End.{End}
use Rattle.rules.specs.declared.effect.Flags.{Flags}
use Rattle.rules.specs.declared.effect.Placing.TheVariants.{Nothing, Send}
use Rattle.rules.specs.declared.effect.Effect.{Effect}

abbrev pub message_by : Line → Reading → Body → Message
message_by line at body = record { header = header_by line at; body = body }

-- a message of the start goes out, and a life begins
abbrev pub sending : End → Reading → Life → Line → Body → Flags → Effect
sending e at life line body flags =
    record { end = moved_end e at life (sent_line line) e.ring; placing = Send (message_by line at body); flags = flags; answer = Handled }

-- the line of a connection in which a message of the start was accepted, with the pair that it gave
abbrev pub measured_line : Line → Measurement → Reading → Line
measured_line l m at = with_offsets (accepted_line l m.swap.came at) m.offsets

abbrev pub started : End → Exchange → Reading → Effect
started e (Begin goes) at = sending e at Opening (posted_line (with_began e.line at) at) goes no_flags
started e (Greet s) at = sending e at Answering (posted_line (accepted_line e.line s.came at) at) s.goes no_flags
started e (Measure m) at = sending e at Settling (measured_line e.line m at) m.swap.goes no_flags
started e (Estimate m) at = sending e at Closing (measured_line e.line m at) m.swap.goes no_flags
started e (Finish s) at = sending e at Up (risen_line (accepted_line e.line s.came at) at) s.goes up_flag
started e (Rise h) at =
    record {
      end = moved_end e at Up (risen_line (accepted_line e.line h at) at) e.ring;
      placing = Nothing;
      flags = up_flag;
      answer = Handled;
    }
