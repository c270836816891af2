-- What is stored is what `sets` stores, whole or cut by the end.
use Rattle.std.proofs.Common.{◌∙◌, ap, arith, rules}
use Rattle.std.proofs.lemmas.List.Edits.{sets}
use Rattle.wire.specs.Bytes.{bytes_of}
use Rattle.codec.proofs.Numbers.{sets_past, put_is_sets, put_cut}
use Rattle.codec.proofs.number.write.Goals as goal

pub returns-in-Some : goal.returns-in-Some
returns-in-Some g c =
    put_is_sets c.copy_from_slice.new.self c.args.s.now c.args.at _ (search rules) (omega arith)
    ∙ ap (sets c.args.s.now c.args.at) (c.copy_from_slice.ensures.after ∙ c.to_bytes.ensures)

pub returns-in-Some-2 : goal.returns-in-Some-2
returns-in-Some-2 g c =
    put_cut c.to_bytes-in-Some-2.result c.args.s.now c.copy_from_slice-in-Some-2.new.self c.args.at (omega arith) (search rules) (search rules)
    ∙ ap (sets c.args.s.now c.args.at) c.to_bytes-in-Some-2.ensures

pub returns-in-None : goal.returns-in-None
returns-in-None g c = sets_past (bytes_of g.row.N (g.T.Number.value c.args.x)) c.args.s.now c.args.at (omega arith)
