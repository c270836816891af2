-- What one record comes to: what is held afterwards, and the line.
use Rattle.std.specs.Prelude.{ℕ, Bool, true, false, List, [], Err, None, Some, Ok, Option}
use Rattle.judge.specs.declared.clock.Reading.{Reading}
use Rattle.rules.specs.Make.{Made, made_of}
use Rattle.rules.specs.Outputs.{Output, outputs_of}
use Rattle.rules.specs.Step.{Result, stepped}
use Rattle.rules.specs.declared.act.Event.{Event}
use Rattle.rules.specs.declared.answer.Answer.{Answer}
use Rattle.rules.specs.declared.answer.Answer.TheVariants.{Handled, NoRule}
use Rattle.script.specs.Record.{given_in}
use Rattle.script.specs.Forms.{record_bytes, record_in}
use Rattle.script.specs.Words.{bad_line}
use Rattle.script.specs.Lines.{answer_line}
use Rattle.script.specs.declared.record.Record.{Record}
use Rattle.script.specs.declared.record.Record.TheVariants.{Make, Happen}
use Rattle.rules.specs.declared.state.End.{End}

-- ---- what is held between records: the end, the bytes of its queue, and the output that is lent to every event

pub record Held : Type 0 where
  pub seat : Option End
  pub queue : List ℕ
  pub out : List ℕ

abbrev pub held_as : Option End → List ℕ → List ℕ → Held
held_as seat queue out = record { seat = seat; queue = queue; out = out }

-- ---- one record

pub record Reply : Type 0 where
  pub held : Held
  pub text : List ℕ
  -- the record was bad, which ends the script
  pub bad : Bool

abbrev pub reply_with : Held → Answer → List Output → Reply
reply_with h answer outputs = record { held = h; text = answer_line answer outputs; bad = false }

-- a valid make starts anew, and a refused one keeps the end there was
abbrev pub make_reply : Held → Made → Reply
make_reply h (Ok e) = reply_with (held_as (Some e) h.queue h.out) Handled []
make_reply h (Err answer) = reply_with h answer []

abbrev pub step_reply : Result → Reply
step_reply r =
    reply_with (held_as (Some r.outcome.end) r.queue r.out) r.outcome.answer
    (outputs_of r.outcome.flags r.outcome.front r.out)

-- events before a valid make have no rule
abbrev pub event_reply : Held → Option End → Event → Reading → List ℕ → Reply
event_reply h None event at given = reply_with h NoRule []
event_reply h (Some e) event at given = step_reply (stepped e event at given h.out h.queue)

abbrev pub record_reply : Held → Option Record → List ℕ → Reply
record_reply h (Some (Make role at settings)) s = make_reply h (made_of role at settings)
record_reply h (Some (Happen event at part)) s = event_reply h h.seat event at (given_in s part)
record_reply h None s = record { held = h; text = bad_line; bad = true }

-- the record stands at the front of s
unfoldable pub reply_to : Held → List ℕ → Reply
reply_to h s = record_reply h (record_in (record_bytes s)) (record_bytes s)
