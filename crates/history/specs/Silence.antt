-- How long an end stays Up without a delivery.
use Rattle.std.specs.Prelude.{ℕ, ◌+◌, ◌^◌, ◌<◌, Bool, false, ◌||◌, List, ◌≡◌}
use Rattle.judge.specs.Clock.{since_of}
use Rattle.rules.specs.Claims.{answer_of}
use Rattle.rules.specs.declared.state.Life.TheVariants.{Up}
use Rattle.run.specs.Run.{Making, Sound, Call, Entry, entry_of, after}
use Rattle.run.specs.Events.{is_passed_by, delivers}
use Rattle.history.specs.Timed.{Moment, calls_of, latest, RunsTrue, time_of, AtLeastEvery, looks}

-- the end hears of its peer: it comes Up, or a message is delivered
abbrev pub hears : Entry → Bool
hears x = x.result.outcome.flags.up || delivers x

-- ---- by readings

-- in every run: an end that is Up after an event that was answered neither 2 nor 14, and that was no connect indication
-- to an initiator, last heard of its peer less than R ticks ago, counted modulo 2 ^ 32
abbrev pub SilentEndsFall : Type 0
SilentEndsFall =
    (m : Making) → Sound m → (cs : List Call) (c : Call) → is_passed_by m.role c.event ≡ false
    → (answer_of (entry_of m cs c).result ≡ 2 → ⊥) → (answer_of (entry_of m cs c).result ≡ 14 → ⊥)
    → (entry_of m cs c).result.outcome.end.life ≡ Up
    → since_of c.at (entry_of m cs c).result.outcome.end.line.times.heard < m.settings.silence

-- ---- in true time

-- with less than 2 ^ 31 ticks from one event to the next, connect indications to an initiator not counted: none of these
-- events leaves an end Up that last heard of its peer R ticks ago, and no end is Up for R + g ticks without hearing of it
abbrev pub SilenceEnds : Type 0
SilenceEnds =
    (m : Making) → Sound m → (start g : ℕ) (xs : List Moment) → RunsTrue m start xs → AtLeastEvery g looks m start xs → g < 2 ^ 31
    → (after m (calls_of xs)).end.life ≡ Up
    → (time_of looks m start xs < time_of hears m start xs + m.settings.silence)
    × (latest start xs < time_of hears m start xs + m.settings.silence + g)
