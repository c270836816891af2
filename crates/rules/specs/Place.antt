-- What becomes of bytes: the message or datum over the front of the lent output, and the queue.
use Rattle.std.specs.Prelude.{ℕ, ◌≤◌, true, List, [], ◌≡◌, length}
use Rattle.queue.specs.Ring.{oldest_in, put_bytes}
use Rattle.wire.specs.Message.{encode, train_in, longest}
use Rattle.wire.specs.Writing.{over, carries}
use Rattle.wire.specs.declared.message.Body.TheVariants.{TrainData}
use Rattle.rules.specs.Decide.{least_room}
use Rattle.rules.specs.declared.effect.Placing.{Placing}
use Rattle.rules.specs.declared.effect.Placing.TheVariants.{Nothing, Send, SendUser, SendOldest, Deliver, Store}
use Rattle.rules.specs.declared.effect.Front.{Front}
use Rattle.rules.specs.declared.effect.Front.TheVariants.{Nothing as none, Message as message, Datum as datum}

-- the output after the bytes b came with the event, and q were the queue's
abbrev pub out_after : Placing → List ℕ → List ℕ → List ℕ → List ℕ
out_after Nothing b q out = out
out_after (Send m) b q out = over (encode m []) out
out_after (SendUser m) b q out = over (encode m b) out
out_after (SendOldest m r) b q out = over (encode m (oldest_in q r)) out
out_after Deliver b q out = over (train_in b) out
out_after (Store r) b q out = out

abbrev pub queue_after : Placing → List ℕ → List ℕ → List ℕ
queue_after Nothing b q = q
queue_after (Send m) b q = q
queue_after (SendUser m) b q = q
queue_after (SendOldest m r) b q = q
queue_after Deliver b q = q
queue_after (Store r) b q = put_bytes q r b

abbrev pub front_after : Placing → List ℕ → List ℕ → Front
front_after Nothing b q = none
front_after (Send m) b q = message (length (encode m []))
front_after (SendUser m) b q = message (length (encode m b))
front_after (SendOldest m r) b q = message (length (encode m (oldest_in q r)))
front_after Deliver b q = datum (length (train_in b))
front_after (Store r) b q = none

-- what placing asks: a message that can be carried, data that were well formed, and room for the longest
abbrev pub Ready : Placing → List ℕ → ℕ → Type 0
Ready Nothing b room = Unit {0}
Ready (Send m) b room = (carries m.body [] ≡ true) × (least_room ≤ room)
Ready (SendUser m) b room = (carries m.body b ≡ true) × (least_room ≤ room)
Ready (SendOldest m r) b room = (m.body ≡ TrainData) × (least_room ≤ room)
Ready Deliver b room = (length (train_in b) ≤ longest) × (least_room ≤ room)
Ready (Store r) b room = Unit {0}
