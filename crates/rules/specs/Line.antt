-- How a connection's numbers, stamps and times change.
use Rattle.std.specs.Prelude.{ℕ, ◌+◌, ◌%◌, ◌^◌, Bool, true, false}
use Rattle.judge.specs.declared.clock.Reading.{Reading}
use Rattle.judge.specs.declared.clock.Offsets.{Offsets}
use Rattle.wire.specs.declared.message.Header.{Header}
use Rattle.rules.specs.declared.state.Times.{Times}
use Rattle.rules.specs.declared.state.Echo.{Echo}
use Rattle.rules.specs.declared.state.Numbers.{Numbers}
use Rattle.rules.specs.declared.state.Line.{Line}

-- ---- a line with one part of it changed

-- a line is put together here alone
abbrev pub line_of : Offsets → Reading → Times → Echo → Numbers → ℕ → Bool → Line
line_of offsets began times echo numbers failures busy =
    record { offsets = offsets; began = began; times = times; echo = echo; numbers = numbers; failures = failures; busy = busy }

abbrev pub with_offsets : Line → Offsets → Line
with_offsets l x = line_of x l.began l.times l.echo l.numbers l.failures l.busy

abbrev pub with_began : Line → Reading → Line
with_began l x = line_of l.offsets x l.times l.echo l.numbers l.failures l.busy

abbrev pub with_times : Line → Times → Line
with_times l x = line_of l.offsets l.began x l.echo l.numbers l.failures l.busy

abbrev pub with_echo : Line → Echo → Line
with_echo l x = line_of l.offsets l.began l.times x l.numbers l.failures l.busy

abbrev pub with_numbers : Line → Numbers → Line
with_numbers l x = line_of l.offsets l.began l.times l.echo x l.failures l.busy

abbrev pub with_failures : Line → ℕ → Line
with_failures l x = line_of l.offsets l.began l.times l.echo l.numbers x l.busy

abbrev pub with_busy : Line → Bool → Line
with_busy l x = line_of l.offsets l.began l.times l.echo l.numbers l.failures x

-- ---- what happens to a line

-- a message was accepted: its number is the last, and its stamps are to be echoed
abbrev pub accepted_line : Line → Header → Reading → Line
accepted_line l h at =
    with_numbers (with_echo l (record { peer = h.stamps.sent; own = at })) (record { next = l.numbers.next; last = h.number })

-- the measuring begins with a message that goes out now
abbrev pub posted_line : Line → Reading → Line
posted_line l at =
    with_offsets l (record { minimum = l.offsets.minimum; maximum = l.offsets.maximum; since = at })

-- a message has taken the next number
abbrev pub sent_line : Line → Line
sent_line l = with_numbers l (record { next = (l.numbers.next + 1) % 2 ^ 16; last = l.numbers.last })

-- the end has come Up
abbrev pub risen_line : Line → Reading → Line
risen_line l at = with_busy (with_failures (with_times l (record { said = at; heard = at })) 0) false

-- a message was delivered while Up
abbrev pub delivered_line : Line → Reading → Line
delivered_line l at = with_failures (with_times l (record { said = l.times.said; heard = at })) 0

-- a kind 6 goes
abbrev pub spoken_line : Line → Reading → Line
spoken_line l at = with_busy (with_times l (record { said = at; heard = l.times.heard })) true

-- the header of a message that goes out at a reading
abbrev pub header_by : Line → Reading → Header
header_by l at =
    record { stamps = record { sent = at; echo = l.echo.peer; receipt = l.echo.own }; number = l.numbers.next }
