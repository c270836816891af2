-- What there is to tell of a side after an event.
use Rattle.std.specs.Prelude.{ℕ, ◌+◌, cond, List, ◌∷◌, length, take}
use Rattle.rules.specs.Claims.{answer_of}
use Rattle.rules.specs.Ends.{was_up}
use Rattle.rules.specs.Step.{Result}
use Rattle.rules.specs.declared.effect.Front.{Front}
use Rattle.rules.specs.declared.effect.Front.TheVariants.{Nothing as none, Message as message, Datum as datum}
use Rattle.run.specs.Events.{is_acceptance, is_delivery, is_handed_in, asks, accepts, opens}
use Rattle.pair.specs.World.{Letter, Datum, Delivery, Side}
use Rattle.pair.specs.Happening.{Happening}

-- a new connection has a new count
abbrev pub counted_from : Result → ℕ → ℕ
counted_from r n = cond (opens r) 0 n

abbrev pub connection_after : ℕ → Side → Happening → Result → ℕ
connection_after asked s h r = cond (asks r) (asked + 1) (cond (accepts r) h.ask s.connection)

abbrev pub accepted_after : Side → Happening → Result → ℕ
accepted_after s h r = cond (is_acceptance h.event (answer_of r)) (h.letter.index + 1) (counted_from r s.accepted)

-- one more, if a message leaves
abbrev pub sent_with : Front → ℕ → ℕ
sent_with none sent = sent
sent_with (message n) sent = sent + 1
sent_with (datum n) sent = sent

-- the log with the message that leaves, if one does: in a connection, under an index, at a time
abbrev pub log_with : Front → List ℕ → ℕ → ℕ → ℕ → List Letter → List Letter
log_with none out connection index time log = log
log_with (message n) out connection index time log =
    record { connection = connection; index = index; time = time; place = length log; bytes = take n out } ∷ log
log_with (datum n) out connection index time log = log

abbrev pub handed_after : Side → Happening → Result → List Datum
handed_after s h r =
    cond (is_handed_in h.event (answer_of r)) (record { connection = s.connection; bytes = h.given } ∷ s.handed) s.handed

-- the data at the front of the output, if there are any, go to the user
abbrev pub received_with : Front → List ℕ → ℕ → List Datum → List Datum
received_with none out connection received = received
received_with (message n) out connection received = received
received_with (datum n) out connection received = record { connection = connection; bytes = take n out } ∷ received

abbrev pub delivered_after : ℕ → Side → Happening → Result → List Delivery
delivered_after time s h r =
    cond (is_delivery (was_up s.end) h.event (answer_of r))
    (record { letter = h.letter; connection = s.connection; time = time } ∷ s.delivered) s.delivered

-- the side after an event that came to r, when so many connections had been asked for
abbrev pub told_of : ℕ → ℕ → Side → Happening → Result → Side
told_of time asked s h r =
    record {
      end = r.outcome.end;
      queue = r.queue;
      bias = s.bias;
      connection = connection_after asked s h r;
      sent = sent_with r.outcome.front (counted_from r s.sent);
      accepted = accepted_after s h r;
      log = log_with r.outcome.front r.out (connection_after asked s h r) (counted_from r s.sent) time s.log;
      handed = handed_after s h r;
      received = received_with r.outcome.front r.out s.connection s.received;
      delivered = delivered_after time s h r;
    }
