-- One turn, by what was tested and what was replied.
use Rattle.player.proofs.Remaining.{it_pauses, it_ends, fits, it_shortens, it_goes}
use Rattle.player.proofs.reply.Player.play.Goals as goal
use Rattle.player.proofs.reply.Player.play.Goals.{then-pauses_at, else-pauses_at+then-reply}

pub slice_bounds-rest-count : goal.slice_bounds-rest-count
slice_bounds-rest-count c =
    fits c.loop-self.invariant c.room.ensures c.pauses_at.ensures c.if-pauses_at.false c.reply.ensures c.if-reply.false c.size_in.ensures

pub slice_bounds-rest-start : goal.slice_bounds-rest-start
slice_bounds-rest-start c = slice_bounds-rest-count c

pub loop-self-smaller : goal.loop-self-smaller
loop-self-smaller c =
    it_shortens c.loop-self.invariant c.room.ensures c.pauses_at.ensures c.if-pauses_at.false c.reply.ensures c.if-reply.false c.size_in.ensures

pub loop-self-preserved : goal.loop-self-preserved
loop-self-preserved c =
    it_goes c.loop-self.invariant c.room.ensures c.pauses_at.ensures c.if-pauses_at.false c.reply.ensures c.if-reply.false c.size_in.ensures

pub returns-clause-plays : goal.returns-clause-plays
returns-clause-plays c =
    elim c.if-pauses_at.branch [
      | then-pauses_at w ↦ rw (w.self-is, w.ended-is) (it_pauses c.loop-self.invariant c.room.ensures c.pauses_at.ensures w.if-pauses_at.true)
      | else-pauses_at+then-reply w ↦ rw (w.self-is, w.ended-is)
          (it_ends c.loop-self.invariant c.room.ensures c.pauses_at.ensures w.if-pauses_at.false w.reply.ensures w.if-reply.true)
    ]
