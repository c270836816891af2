-- No character changes a line whose note has begun.
use Rattle.std.proofs.Common.{◌≡◌, ℕ, ◌+◌, true, drop, refl, sym, ap, ◌∙◌, rules}
use Rattle.std.proofs.lemmas.List.{drop_more}
use Rattle.std.proofs.lemmas.List.Folds.{fold_stays}
use Rattle.std.specs.List.{fold}
use Rattle.inspect.specs.Hex.{Progress, fed}
use Rattle.inspect.proofs.hex.Line.feed_all.Goals as goal

noted : (l : Progress) (x : ℕ) → l.note ≡ true → fed l x ≡ l
noted l x e = rw e refl

pub returns-then-self : goal.returns-then-self
returns-then-self c =
    let l = c.feed.new.self in
    let rest = drop (c.loop-character.character-index + 1) c.args.characters.now in
    let stays = fold_stays fed l (λ x. noted l x (search rules)) rest in
    sym stays ∙ ap (λ k. fold fed k rest) c.feed.ensures ∙ sym (ap (fold fed c.loop-character.self) (drop_more c.args.characters.now c.loop-character.character-index 0 (search rules))) ∙ c.loop-character.invariant
