-- The part that is handed back begins with the word.
use Rattle.std.proofs.Common.{refl, ap, ◌∙◌, ◌+◌, ◌-◌, length, arith, rules}
use borrow.Rule.Slice.PartMut.{put_mid}
use Rattle.codec.proofs.Numbers.{put_is_sets}
use Rattle.player.proofs.text.Text.put.Goals as goal

pub returns : goal.returns
returns c =
    let t = c.args.self.now.bytes.now in
    let w = c.args.word.now in
    let at = c.args.self.now.to in
    record {
      lent = refl;
      as_long = search rules;
      put =
          record {
            next = refl;
            stored =
                ap (put_mid at (at + length w - at) t) c.copy_from_slice.ensures.after ∙ put_is_sets w t at _ (omega arith) (search rules);
          };
    }
