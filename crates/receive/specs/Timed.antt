-- What the timed run is made of.
use Rattle.std.specs.Prelude.{ℕ, ◌-◌, ◌%◌, Bool, true, false, if◌then◌else◌, ◌==◌, nat_lt}
use Rattle.std.specs.declared.ops.Range.{Range}
use Rattle.rules.specs.declared.effect.Front.{Front}
use Rattle.rules.specs.declared.effect.Front.TheVariants.{Nothing, Message as message, Datum}
use Rattle.rules.specs.declared.act.Event.{Event}
use Rattle.rules.specs.declared.act.Event.TheVariants.{Connect, Message as heard}
use Rattle.rules.specs.declared.settings.Settings.{Settings}

abbrev pub settings_of : Settings
settings_of = record { age = 50; spread = 20; silence = 300; life_sign = 100; wait = 500; retry = 1_000; jump = 4; errors = 2 }

abbrev pub event_at : ℕ → Event
event_at turn = if turn == 0 then Connect else heard

abbrev pub number_at_turn : ℕ → ℕ
number_at_turn turn = if turn == 0 then 0 else ((turn - 1) % 65_536)

-- where the bytes of a turn start and end in the input
abbrev pub span_of : ℕ → Range ℕ
span_of turn =
    if nat_lt turn 2 then record { start = 0; end = 15 }
    else if turn == 2 then record { start = 15; end = 30 }
    else if turn == 3 then record { start = 30; end = 45 }
    else record { start = 45; end = 81 }

abbrev pub is_datum : Front → Bool
is_datum Nothing = false
is_datum (message n) = false
is_datum (Datum n) = true
