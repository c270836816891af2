-- The reply to the record that was read is the reply to the bytes.
use Rattle.std.proofs.Common.{refl}
use Rattle.script.specs.Reply.{reply_to}
use Rattle.player.proofs.reply.Player.reply.Goals as goal

pub returns-in-Make : goal.returns-in-Make
unfolding reply_to
returns-in-Make c = rw (← c.record_bytes-own.ensures, ← c.read_record.ensures, c.in-Some.is, c.in-Make.is) c.make.ensures

pub returns-in-Happen : goal.returns-in-Happen
unfolding reply_to
returns-in-Happen c =
    rw (← c.record_bytes-own.ensures, ← c.read_record.ensures, c.in-Some.is, c.in-Happen.is, ← c.given_in.ensures) c.step.ensures

pub returns-in_default : goal.returns-in_default
unfolding reply_to
returns-in_default c =
    rw (← c.record_bytes-own.ensures, ← c.read_record.ensures, c.in_default.is)
    (record { leaves = record { out_lent = refl; q_lent = refl; text_lent = refl; held = refl; puts = c.put.ensures }; bad = refl })
