-- Claims: each sent data message is delivered at most once, in the order of sending, and in its own connection.
use Rattle.std.specs.Prelude.{◌<◌, List, [], ◌∷◌, ◌≡◌, length, Some}
use Rattle.wire.specs.Message.{parse, kind_of}
use Rattle.wire.specs.declared.message.Header.{Header}
use Rattle.wire.specs.declared.message.Body.{Body}
use Rattle.pair.specs.Among.{Among}
use Rattle.pair.specs.World.{Letter, Delivery, Side}
use Rattle.pair.specs.Channel.{MayHandOver}
use Rattle.pair.specs.EveryRun.{EveryRun, BothWays}

-- the place of a message in a log is the number of those sent before it
abbrev pub InPlace : List Letter → Type 0
InPlace [] = Unit {0}
InPlace (l ∷ before) = (l.place ≡ length before) × InPlace before

abbrev pub PlacesAreTheOrder : Type 0
PlacesAreTheOrder = EveryRun (BothWays (λ w to from. InPlace from.log))

-- what is delivered was sent after all that was delivered before it
abbrev pub InOrder : List Delivery → Type 0
InOrder [] = Unit {0}
InOrder (d ∷ before) = ((e : Delivery) → Among e before → e.letter.place < d.letter.place) × InOrder before

-- over the whole run and all its connections
abbrev pub DeliveredInOrder : Type 0
DeliveredInOrder = EveryRun (BothWays (λ w to from. InOrder to.delivered))

-- so no message is delivered twice
abbrev pub Once : List Delivery → Type 0
Once [] = Unit {0}
Once (d ∷ before) = ((e : Delivery) → Among e before → e.letter ≡ d.letter → ⊥) × Once before

abbrev pub AtMostOnce : Type 0
AtMostOnce = EveryRun (BothWays (λ w to from. Once to.delivered))

-- whatever was delivered the other end sent, as a data message, and in the connection that it was delivered in
pub record RightlyDelivered (from : Side) (d : Delivery) : Type 0 where
  pub was_sent : Among d.letter from.log
  pub same_connection : d.letter.connection ≡ d.connection
  pub is_data : (h : Header) × (body : Body) × (parse d.letter.bytes ≡ Some (record { header = h; body = body }))
      × (kind_of body ≡ 6)

abbrev pub OnlyOfThisConnection : Type 0
OnlyOfThisConnection = EveryRun (BothWays (λ w to from. (d : Delivery) → Among d to.delivered → RightlyDelivered from d))

-- nothing was ever sent in connection 0, so a side that accepted without an ask is handed nothing
abbrev pub NothingComesUnasked : Type 0
NothingComesUnasked = EveryRun (BothWays (λ w to from. to.connection ≡ 0 → (l : Letter) → MayHandOver w.time to from l → ⊥))
