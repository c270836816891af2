-- Words for one event: what happened, and what its answer says of it.
use Rattle.std.specs.Prelude.{ℕ, Bool, true, false, ◌||◌, ◌&&◌, eqb}
use Rattle.rules.specs.Claims.{answer_of}
use Rattle.rules.specs.Ends.{was_up}
use Rattle.rules.specs.Step.{Result}
use Rattle.rules.specs.declared.act.Event.{Event}
use Rattle.rules.specs.declared.act.Event.TheVariants.{Tick, Connect, Confirm, Disconnect, Data, Message}
use Rattle.rules.specs.declared.state.Role.{Role}
use Rattle.rules.specs.declared.state.Role.TheVariants.{Initiator, Called}
use Rattle.rules.specs.declared.effect.Front.{Front}
use Rattle.rules.specs.declared.effect.Front.TheVariants.{Nothing as none, Message as message, Datum as datum}
use Rattle.run.specs.Run.{Entry}

-- ---- what happened

abbrev pub is_tick : Event → Bool
is_tick Tick = true
is_tick Connect = false
is_tick Confirm = false
is_tick Disconnect = false
is_tick Data = false
is_tick Message = false

abbrev pub is_connect : Event → Bool
is_connect Tick = false
is_connect Connect = true
is_connect Confirm = false
is_connect Disconnect = false
is_connect Data = false
is_connect Message = false

abbrev pub is_confirm : Event → Bool
is_confirm Tick = false
is_confirm Connect = false
is_confirm Confirm = true
is_confirm Disconnect = false
is_confirm Data = false
is_confirm Message = false

-- a connect or a disconnect indication: both are judged before any limit
abbrev pub is_indication : Event → Bool
is_indication Tick = false
is_indication Connect = true
is_indication Confirm = false
is_indication Disconnect = true
is_indication Data = false
is_indication Message = false

abbrev pub is_data : Event → Bool
is_data Tick = false
is_data Connect = false
is_data Confirm = false
is_data Disconnect = false
is_data Data = true
is_data Message = false

abbrev pub is_message : Event → Bool
is_message Tick = false
is_message Connect = false
is_message Confirm = false
is_message Disconnect = false
is_message Data = false
is_message Message = true

-- a connect indication to an initiator: the one event that is taken before any limit is looked at and yet ends no state
abbrev pub is_passed_by : Role → Event → Bool
is_passed_by Initiator event = is_connect event
is_passed_by Called event = false

-- ---- what its answer says of it

-- handled, or delivered after a gap
abbrev pub is_yes : ℕ → Bool
is_yes n = eqb n 0 || eqb n 13

-- an event that is answered 2, 12 or 14 was dropped
abbrev pub is_dropped : ℕ → Bool
is_dropped n = eqb n 2 || eqb n 12 || eqb n 14

-- a message that is accepted, of whatever kind
abbrev pub is_acceptance : Event → ℕ → Bool
is_acceptance event n = is_message event && is_yes n

-- a delivery: a message that is accepted by an end that stands up
abbrev pub is_delivery : Bool → Event → ℕ → Bool
is_delivery up event n = up && is_acceptance event n

-- user data that the end took over
abbrev pub is_handed_in : Event → ℕ → Bool
is_handed_in event n = is_data event && eqb n 0

-- ---- what it put out

abbrev pub asks : Result → Bool
asks r = r.outcome.flags.ask

abbrev pub accepts : Result → Bool
accepts r = r.outcome.flags.accept

-- a connection begins
abbrev pub opens : Result → Bool
opens r = asks r || accepts r

-- a message leaves
abbrev pub is_message_at : Front → Bool
is_message_at none = false
is_message_at (message n) = true
is_message_at (datum n) = false

-- data go to the user
abbrev pub is_datum_at : Front → Bool
is_datum_at none = false
is_datum_at (message n) = false
is_datum_at (datum n) = true

-- ---- in a run

-- a message comes to an end that is Up, and is accepted
abbrev pub delivers : Entry → Bool
delivers x = is_delivery (was_up x.before.end) x.call.event (answer_of x.result)
