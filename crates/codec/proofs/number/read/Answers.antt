-- What is read is told by the bytes from the place on, with bytes of 0 behind them where they are too few.
use Rattle.std.proofs.Common.{◌∙◌, ℕ, List, take, ap, get_or, rules}
use Rattle.codec.proofs.Numbers.{read_whole, read_cut, made}
use Rattle.codec.proofs.number.read.Goals as goal

pub returns-in-Some : goal.returns-in-Some
returns-in-Some g c =
    c.from_bytes.ensures
    ∙ read_whole g.row.N c.args.s.now c.in-Some.bytes.now c.args.at (c.in-Some.ensures.cases.same ∙ ap (λ (l : List ℕ). take g.row.N l) c.bytes_from-rest.ensures)

pub returns : goal.returns
returns g c =
    c.from_bytes-2.ensures
    ∙ read_cut g.row.N c.args.s.now c.bytes_from-rest.result.now c.from_fn.result c.args.at c.bytes_from-rest.ensures
    (made _ (λ k. get_or c.bytes_from-rest.result.now k 0) _ (λ i y f' k. search rules) _ _ c.from_fn.ensures.items)
