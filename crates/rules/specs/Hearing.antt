-- What a message comes to.
use Rattle.std.specs.Prelude.{ℕ, ◌+◌, ◌-◌, Bool, true, false, cond, ltb, eqb, None, Option, Some}
use Rattle.judge.specs.Clock.{age_of, fresh_of}
use Rattle.judge.specs.Sequence.{ahead_of, class_of}
use Rattle.judge.specs.declared.clock.Reading.{Reading}
use Rattle.judge.specs.declared.sequence.Class.{Class}
use Rattle.judge.specs.declared.sequence.Class.TheVariants.{Expected, Gap, Lost, Old}
use Rattle.wire.specs.Message.{kind_of}
use Rattle.wire.specs.declared.message.Header.{Header}
use Rattle.wire.specs.declared.message.Body.{Body}
use Rattle.wire.specs.declared.message.Body.TheVariants.{OffsetStart, OffsetAnsw1, OffsetAnsw2, OffsetEst, OffsetEnd, LifeSign, TrainData}
use Rattle.rules.specs.State.{awaited_by}
use Rattle.rules.specs.Starting.{in_turn, on_start, on_answer1, on_answer2, on_estimate, on_end}
use Rattle.rules.specs.declared.answer.Answer.{Answer}
use Rattle.rules.specs.declared.answer.Answer.TheVariants.{NoRule, Malformed as malformed, NotAwaited, Old as old, Lost as lost, Late as late}
use Rattle.rules.specs.declared.act.Act.{Act}
use Rattle.rules.specs.declared.act.Act.TheVariants.{Note, Move, Hear}
use Rattle.rules.specs.declared.act.ConnectionMove.TheVariants.{Fall}
use Rattle.rules.specs.declared.act.Delivery.{Delivery}
use Rattle.rules.specs.declared.act.Verdict.TheVariants.{Deliver, Report}
use Rattle.rules.specs.declared.state.End.{End}
use Rattle.wire.specs.declared.message.Message.{Message}

-- ---- what a message is at an end

-- d, the class of the number, the age, and whether that is at most A
abbrev pub ahead_for : End → Header → ℕ
ahead_for e h = ahead_of h.number e.line.numbers.last

abbrev pub class_for : End → Header → Class
class_for e h = class_of h.number e.line.numbers.last e.settings.jump

abbrev pub age_for : End → Reading → Header → ℕ
age_for e at h = age_of at h.stamps.sent e.line.offsets

abbrev pub fresh_for : End → Reading → Header → Bool
fresh_for e at h = fresh_of at h.stamps.sent e.line.offsets e.settings.age

-- ---- data while Up

-- one more failure: an error report, and at E of them down
abbrev pub failed_after : ℕ → ℕ → Answer → Act
failed_after failures errors answer =
    cond (ltb (failures + 1) errors) (Hear (Report answer (failures + 1))) (Move (Fall answer true))

abbrev pub on_failure : End → Answer → Act
on_failure e answer = failed_after e.line.failures e.settings.errors answer

-- all before the message are accounted for but d less 1
abbrev pub delivery_of : End → Reading → Header → Bool → Delivery
delivery_of e at h train = record { header = h; age = age_for e at h; skipped = ahead_for e h - 1; train = train }

abbrev pub on_age : End → Reading → Header → Bool → Act
on_age e at h train = cond (fresh_for e at h) (Hear (Deliver (delivery_of e at h train))) (on_failure e late)

-- the number is judged before the age
abbrev pub on_class : Class → End → Reading → Header → Bool → Act
on_class Expected e at h train = on_age e at h train
on_class Gap e at h train = on_age e at h train
on_class Lost e at h train = Move (Fall lost false)
on_class Old e at h train = on_failure e old

abbrev pub on_up_message : End → Reading → Header → Bool → Act
on_up_message e at h train = on_class (class_for e h) e at h train

-- ---- any message

-- the awaited kind has come
abbrev pub on_awaited : End → Reading → Header → Body → Act
on_awaited e at h OffsetStart = in_turn e h (on_start h)
on_awaited e at h OffsetAnsw1 = in_turn e h (on_answer1 e at h)
on_awaited e at h OffsetAnsw2 = in_turn e h (on_answer2 e at h)
on_awaited e at h (OffsetEst minimum maximum) = in_turn e h (on_estimate e h minimum)
on_awaited e at h OffsetEnd = in_turn e h (on_end h)
on_awaited e at h LifeSign = on_up_message e at h false
on_awaited e at h TrainData = on_up_message e at h true

abbrev pub on_parsed : End → Reading → Option Message → Act
on_parsed e at (Some m) =
    cond (eqb (kind_of m.body) (awaited_by e.life)) (on_awaited e at m.header m.body) (Note NotAwaited)
on_parsed e at None = Note malformed

abbrev pub on_message : End → Reading → Option Message → Act
on_message e at p = cond (eqb (awaited_by e.life) 0) (Note NoRule) (on_parsed e at p)
