-- Hearing and saying while Up.
use Rattle.std.specs.Prelude.{◌+◌, Bool, true, false, cond, not, eqb}
use Rattle.judge.specs.declared.clock.Reading.{Reading}
use Rattle.queue.specs.Ring.{waiting_in, without_oldest}
use Rattle.queue.specs.declared.Ring.{Ring}
use Rattle.wire.specs.declared.message.Body.TheVariants.{LifeSign, TrainData}
use Rattle.rules.specs.Line.{with_failures, with_busy, accepted_line, sent_line, delivered_line, spoken_line}
use Rattle.rules.specs.Ends.{moved_end, no_flags, error_flag}
use Rattle.rules.specs.Exchanging.{message_by}
use Rattle.rules.specs.declared.answer.Answer.{Answer}
use Rattle.rules.specs.declared.answer.Answer.TheVariants.{Handled, Gap}
use Rattle.rules.specs.declared.act.Delivery.{Delivery}
use Rattle.rules.specs.declared.act.Verdict.{Verdict}
use Rattle.rules.specs.declared.act.Verdict.TheVariants.{Deliver as deliver, Report}
use Rattle.rules.specs.declared.act.Speech.{Speech}
use Rattle.rules.specs.declared.act.Speech.TheVariants.{Quiet, Beat, Speak, Drain, Hold}
use Rattle.rules.specs.declared.state.End.{End}
use Rattle.rules.specs.declared.effect.Placing.{Placing}
use Rattle.rules.specs.declared.effect.Placing.TheVariants.{Nothing, Send, SendUser, SendOldest, Deliver, Store}
use Rattle.rules.specs.declared.effect.Effect.{Effect}

-- ---- hearing

-- train data go to the user, life signs to nobody
abbrev pub delivering : Bool → Placing
delivering train = cond train Deliver Nothing

-- messages are missing before it
abbrev pub has_gap : Delivery → Bool
has_gap d = not (eqb d.skipped 0)

abbrev pub delivered_answer : Bool → Answer
delivered_answer gap = cond gap Gap Handled

abbrev pub heard : End → Verdict → Reading → Effect
heard e (deliver d) at =
    record {
      end = moved_end e at e.life (delivered_line (accepted_line e.line d.header at) at) e.ring;
      placing = delivering d.train;
      flags = error_flag (has_gap d);
      answer = delivered_answer (has_gap d);
    }
heard e (Report answer failures) at =
    record {
      end = moved_end e at e.life (with_failures e.line failures) e.ring;
      placing = Nothing;
      flags = error_flag true;
      answer = answer;
    }

-- ---- saying

-- the ring with one more at its end
abbrev pub longer : Ring → Ring
longer r = record { head = r.head; count = waiting_in r + 1 }

-- a kind 6 goes out
abbrev pub speaking : End → Reading → Ring → Placing → Effect
speaking e at ring placing =
    record { end = moved_end e at e.life (sent_line (spoken_line e.line at)) ring; placing = placing; flags = no_flags; answer = Handled }

abbrev pub said : End → Speech → Reading → Effect
said e Quiet at =
    record { end = moved_end e at e.life (with_busy e.line false) e.ring; placing = Nothing; flags = no_flags; answer = Handled }
said e Beat at = speaking e at e.ring (Send (message_by e.line at LifeSign))
said e Speak at = speaking e at e.ring (SendUser (message_by e.line at TrainData))
said e Drain at = speaking e at (without_oldest e.ring) (SendOldest (message_by e.line at TrainData) e.ring)
said e Hold at =
    record { end = moved_end e at e.life e.line (longer e.ring); placing = Store e.ring; flags = no_flags; answer = Handled }
