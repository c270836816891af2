-- The channel. It may lose, repeat, reorder and delay: at any time it may hand over to a side any message that keeps these five
-- clauses, and it need never hand over any.
use Rattle.std.specs.Prelude.{ℕ, ◌+◌, ◌^◌, ◌≤◌, ◌<◌, ◌≡◌}
use Rattle.pair.specs.Among.{Among}
use Rattle.pair.specs.World.{Letter, Side}

pub record MayHandOver (time : ℕ) (to from : Side) (l : Letter) : Type 0 where
  -- the other end sent it, and it is unaltered
  pub was_sent : Among l from.log
  -- in the same connection
  pub same_connection : l.connection ≡ to.connection
  -- less than 2 ^ 31 ticks ago
  pub soon : time < l.time + 2 ^ 31
  -- from 32,768 behind the last message accepted, whose number is `accepted` less 1 ..
  pub not_far_behind : to.accepted ≤ l.index + 1 + 32_768
  -- .. to 32,767 ahead of it
  pub not_far_ahead : l.index + 1 ≤ to.accepted + 32_767
