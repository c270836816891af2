-- Clock readings and offsets: 32 bits, and they wrap. All differences are taken modulo 2 ^ 32.
use Rattle.std.specs.Prelude.{ℕ, ◌^◌, Bool, ◌==◌, nat_le}
use Rattle.judge.specs.Difference.{diff}
use Rattle.judge.specs.declared.clock.Reading.{Reading}
use Rattle.judge.specs.declared.clock.Offset.{Offset}
use Rattle.judge.specs.declared.clock.Stamps.{Stamps}
use Rattle.judge.specs.declared.clock.Offsets.{Offsets}

-- ---- one clock

-- the ticks from one reading to a later one
abbrev pub since_of : Reading → Reading → ℕ
since_of now then = diff 32 now.0 then.0

-- the clock went back
abbrev pub back_of : Reading → Reading → Bool
back_of now last = nat_le (2 ^ 31) (since_of now last)

-- so many ticks or more have passed
abbrev pub passed_of : Reading → Reading → ℕ → Bool
passed_of now then limit = nat_le limit (since_of now then)

abbrev pub same_of : Reading → Reading → Bool
same_of a b = a.0 == b.0

-- ---- two clocks

-- an own reading less one of the peer's
abbrev pub offset_of : Reading → Reading → Offset
offset_of own peer = record { 0 = diff 32 own.0 peer.0 }

-- one offset is 0 less the other
abbrev pub opposed_of : Offset → Offset → Bool
opposed_of a b = a.0 == diff 32 0 b.0

-- the pair that a message with these stamps gives when it comes now: its minimum is the own reading that it echoes less the peer's
-- receipt of that, its maximum is now less the sender's reading, and the echoed reading began it
abbrev pub offsets_by : Stamps → Reading → Offsets
offsets_by s now =
    record { minimum = offset_of s.echo s.receipt; maximum = offset_of now s.sent; since = s.echo }

-- maximum less minimum
abbrev pub spread_of : Offsets → ℕ
spread_of pair = diff 32 pair.maximum.0 pair.minimum.0

abbrev pub narrow_of : Offsets → ℕ → Bool
narrow_of pair limit = nat_le (spread_of pair) limit

-- now, less the sender's reading, less the offset minimum
abbrev pub age_of : Reading → Reading → Offsets → ℕ
age_of now sent pair = diff 32 (diff 32 now.0 sent.0) pair.minimum.0

abbrev pub fresh_of : Reading → Reading → Offsets → ℕ → Bool
fresh_of now sent pair limit = nat_le (age_of now sent pair) limit
