-- From "for each act, from its grounds" to "for each call of a run".
use lib.ListN.{length}
use Rattle.rules.specs.Perform.{performed}
use Rattle.rules.specs.Step.{result_of, effect_of, stepped}
use Rattle.rules.specs.declared.answer.Answer.{Answer}
use Rattle.rules.specs.declared.act.Act.{Act}
use Rattle.rules.specs.declared.act.Act.TheVariants.{Stay}
use Rattle.rules.proofs.Acts.{EachTaken, by_act}
use Rattle.rules.proofs.Grounds.{StayGrounds, IsTaken}
use Rattle.run.specs.Run.{Call, Kept, Entry, came_to}

-- the entry of a call whose act is the given one
abbrev pub entry_by : Kept → Call → Act → Entry
entry_by k c act =
    record { before = k; call = c; result = result_of (performed k.end act c.at) c.given c.out k.queue }

pub by_call : (k : Kept) (c : Call) (P : Entry → Type 0)
    → ((a : Answer) → StayGrounds k.end c.event c.at c.given (length c.out) a → P (entry_by k c (Stay a)))
    → (IsTaken k.end c.event c.at c.given (length c.out)
    → EachTaken k.end c.event c.at c.given (λ act. P (entry_by k c act)))
    → P (record { before = k; call = c; result = came_to k c })
unfolding stepped effect_of
by_call k c P stays each =
    by_act k.end c.event c.at c.given (length c.out) (λ act. P (entry_by k c act)) stays each
