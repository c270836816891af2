-- Messages that are delivered for certain: train data, a life sign, the oldest that is fresh, across both wraps, and after a gap.
use Rattle.std.specs.Prelude.{ℕ, ◌≤◌, Bool, true, false, List, [], ◌∷◌, ◌≡◌, length}
use Rattle.queue.specs.Ring.{empty_ring}
use Rattle.wire.specs.Message.{train_in}
use Rattle.wire.specs.Writing.{over}
use Rattle.wire.specs.declared.message.Header.{Header}
use Rattle.rules.specs.Hearing.{ahead_for, age_for}
use Rattle.rules.specs.State.{zero_reading}
use Rattle.rules.specs.declared.act.Event.TheVariants.{Message}
use Rattle.rules.specs.declared.state.Role.TheVariants.{Initiator}
use Rattle.rules.specs.declared.state.Life.TheVariants.{Up}
use Rattle.rules.specs.declared.state.End.{End}
use Rattle.rules.specs.Claims.{answer_of}
use Rattle.rules.specs.Ends.{no_flags}
use Rattle.rules.specs.Step.{Result, stepped}
use Rattle.rules.specs.declared.effect.Front.TheVariants.{Datum as datum}
use Rattle.run.specs.Run.{Sound, Call}
use Rattle.run.specs.Events.{delivers}
use Rattle.history.specs.Delivery.{HandedOver, Says, IsJudged, InTurnAndFresh}
use Rattle.witness.specs.Ends.{settings, reading, initiator, roomy, stamped, life_sign, train}
use Rattle.witness.specs.Table.{Row, left, next}
use Rattle.witness.specs.Initiator.{rising, in_turn, until_heard, gapped}

-- ---- one message, at an end that is Up: `ExpectedIsDelivered` and `GapIsDelivered`

-- the initiator of the long run, just come Up: the last number is 1, the minimum 53
abbrev pub risen : End
risen = (left initiator rising).end

-- an end that last accepted 65,535 and will send 65,535 next; it heard of its peer at 800, and its minimum is 994
abbrev pub before_the_wrap : End
before_the_wrap =
    record {
      settings = settings;
      line =
          record {
            offsets = record { minimum = record { 0 = 994 }; maximum = record { 0 = 1_003 }; since = zero_reading };
            began = zero_reading;
            times = record { said = reading 900; heard = reading 800 };
            echo = record { peer = zero_reading; own = zero_reading };
            numbers = record { next = 65_535; last = 65_535 };
            failures = 1;
            busy = true;
          };
      reading = reading 999;
      asking = record { when = zero_reading; at_once = false };
      ring = empty_ring;
      role = Initiator;
      life = Up;
    }

-- what it comes to when a message comes at a reading
abbrev pub coming_to : End → ℕ → List ℕ → Result
coming_to e n given = stepped e Message (reading n) given roomy initiator.queue

abbrev pub age_at : End → ℕ → Header → ℕ
age_at e n h = age_for e (reading n) h

-- the message of this header is judged, is the expected one and of this age, which is fresh; so it is delivered
abbrev pub IsExpected : End → ℕ → List ℕ → Header → Bool → ℕ → Type 0
IsExpected e n given h is_train age =
    IsJudged e (reading n) roomy × Says given h is_train × (ahead_for e h ≡ 1) × (age_at e n h ≡ age)
    × (age_at e n h ≤ e.settings.age)
    × (let r = coming_to e n given in
    (answer_of r ≡ 0) × HandedOver is_train given roomy r × (r.outcome.flags ≡ no_flags) × (r.outcome.end.life ≡ Up))

abbrev pub TrainDataAreDelivered : Type 0
TrainDataAreDelivered = IsExpected risen 131 (train 2 70 115 66 (1 ∷ 2 ∷ 3 ∷ [])) (stamped 2 70 115 66) true 8

abbrev pub LifeSignIsDelivered : Type 0
LifeSignIsDelivered = IsExpected risen 131 (life_sign 2 70 115 66) (stamped 2 70 115 66) false 8

-- A is 50
abbrev pub OldestIsDelivered : Type 0
OldestIsDelivered = IsExpected risen 131 (life_sign 2 28 115 66) (stamped 2 28 115 66) false 50

-- 0 after 65,535, and sent 6 ticks before the peer's clock wrapped
abbrev pub DeliveredAtTheWrap : Type 0
DeliveredAtTheWrap =
    IsExpected before_the_wrap 1_000 (train 0 4_294_967_290 0 0 (1 ∷ [])) (stamped 0 4_294_967_290 0 0) true 12

-- the same of a message that is d ahead
abbrev pub IsGapped : End → ℕ → List ℕ → Header → Bool → ℕ → Type 0
IsGapped e n given h is_train d =
    IsJudged e (reading n) roomy × Says given h is_train × (ahead_for e h ≡ d)
    × (2 ≤ ahead_for e h) × (ahead_for e h ≤ e.settings.jump)
    × (e.settings.jump ≤ 1_000) × (age_at e n h ≤ e.settings.age)
    × (let r = coming_to e n given in
    (answer_of r ≡ 13) × HandedOver is_train given roomy r × (r.outcome.flags.error ≡ true) × (r.outcome.end.life ≡ Up))

-- N is 4
abbrev pub NarrowestGap : Type 0
NarrowestGap = IsGapped risen 131 (train 3 70 115 66 (1 ∷ [])) (stamped 3 70 115 66) true 2

abbrev pub WidestGap : Type 0
WidestGap = IsGapped risen 131 (life_sign 5 70 115 66) (stamped 5 70 115 66) false 4

-- ---- in a run: `DeliveredIsFresh` and `UserGetsDelivered`

-- an event delivers n bytes of train data; so they were fresh, and are the bytes of the message from the seventeenth on
abbrev pub IsDelivered : List Row → Call → ℕ → Type 0
IsDelivered xs c n =
    let x = next initiator xs c in
    Sound initiator × (x.result.outcome.front ≡ datum n) × (delivers x ≡ true) × InTurnAndFresh x 4 50
    × (n ≡ length (train_in c.given))
    × (x.result.out ≡ over (train_in c.given) c.out)

abbrev pub DeliveredInTurn : Type 0
DeliveredInTurn = IsDelivered rising in_turn 3

abbrev pub DeliveredAfterGap : Type 0
DeliveredAfterGap = IsDelivered until_heard gapped 1
