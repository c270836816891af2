-- The ends, the calls and the peer's messages of which the runs are made.
use Rattle.std.specs.Prelude.{ℕ, List, [], ◌∷◌, ◌++◌, replicate}
use Rattle.judge.specs.declared.clock.Reading.{Reading}
use Rattle.queue.specs.Ring.{size}
use Rattle.wire.specs.Bytes.{bytes_of}
use Rattle.wire.specs.Message.{header_bytes}
use Rattle.wire.specs.declared.message.Header.{Header}
use Rattle.rules.specs.Decide.{least_room}
use Rattle.rules.specs.declared.act.Event.{Event}
use Rattle.rules.specs.declared.act.Event.TheVariants.{Tick, Connect, Confirm, Disconnect, Data, Message}
use Rattle.rules.specs.declared.settings.Settings.{Settings}
use Rattle.rules.specs.declared.state.Role.{Role}
use Rattle.rules.specs.declared.state.Role.TheVariants.{Initiator, Called}
use Rattle.run.specs.Run.{Making, Call}

-- ---- ends

-- the settings of the script's example
abbrev pub settings : Settings
settings = record { age = 50; spread = 20; silence = 300; life_sign = 100; wait = 500; retry = 1_000; jump = 4; errors = 2 }

abbrev pub reading : ℕ → Reading
reading n = record { 0 = n }

abbrev pub made : Role → ℕ → Making
made role n = record { role = role; at = reading n; settings = settings; queue = replicate size 0 }

-- two ends that could be those of one link, the clock of the initiator 54 ticks ahead
abbrev pub initiator : Making
initiator = made Initiator 100

abbrev pub called : Making
called = made Called 40

-- ---- calls, with room for the longest output

abbrev pub roomy : List ℕ
roomy = replicate least_room 0

abbrev pub call : Event → ℕ → List ℕ → Call
call event n given = record { event = event; at = reading n; given = given; out = roomy }

abbrev pub tick : ℕ → Call
tick n = call Tick n []

abbrev pub connect : ℕ → Call
connect n = call Connect n []

abbrev pub confirm : ℕ → Call
confirm n = call Confirm n []

abbrev pub disconnect : ℕ → Call
disconnect n = call Disconnect n []

-- user data, or a message, at a reading
abbrev pub user : ℕ → List ℕ → Call
user n given = call Data n given

abbrev pub comes : ℕ → List ℕ → Call
comes n given = call Message n given

-- a tick with room for one byte less than the least
abbrev pub cramped_tick : ℕ → Call
cramped_tick n = record { event = Tick; at = reading n; given = []; out = replicate 115 0 }

-- ---- messages: the kind where it is not fixed, the number, the sender's reading, the echo and its receipt

abbrev pub stamped : ℕ → ℕ → ℕ → ℕ → Header
stamped number sent echo receipt =
    record { stamps = record { sent = reading sent; echo = reading echo; receipt = reading receipt }; number = number }

-- kinds 1, 2, 3 and 5
abbrev pub bare : ℕ → ℕ → ℕ → ℕ → ℕ → List ℕ
bare kind number sent echo receipt = header_bytes kind (stamped number sent echo receipt)

-- kind 4, with the offset minimum and maximum
abbrev pub estimate : ℕ → ℕ → ℕ → ℕ → ℕ → ℕ → List ℕ
estimate number sent echo receipt minimum maximum = bare 4 number sent echo receipt ++ (bytes_of 4 minimum ++ bytes_of 4 maximum)

abbrev pub life_sign : ℕ → ℕ → ℕ → ℕ → List ℕ
life_sign number sent echo receipt = bare 6 number sent echo receipt ++ (2 ∷ [])

abbrev pub train : ℕ → ℕ → ℕ → ℕ → List ℕ → List ℕ
train number sent echo receipt d = bare 6 number sent echo receipt ++ (3 ∷ d)
