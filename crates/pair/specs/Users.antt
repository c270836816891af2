-- Claims: what one user receives is what the other handed in.
use Rattle.std.specs.Prelude.{ℕ, true, ◌≡◌, take}
use Rattle.rules.specs.Claims.{answer_of}
use Rattle.rules.specs.Ends.{was_up}
use Rattle.rules.specs.declared.effect.Front.TheVariants.{Datum as datum}
use Rattle.run.specs.Events.{is_delivery}
use Rattle.pair.specs.Among.{Among, Picked}
use Rattle.pair.specs.World.{Side, World}
use Rattle.pair.specs.Happening.{Happening, result_at}
use Rattle.pair.specs.Run.{Lawful}
use Rattle.pair.specs.EveryRun.{EveryRun, BothWays}

-- data at the front of the output are, byte for byte, data that the other end's user handed in, in this very connection
pub record TheUsers (w : World) (to from : Side) (h : Happening) (n : ℕ) : Type 0 where
  pub delivered : is_delivery (was_up to.end) h.event (answer_of (result_at w.time to h)) ≡ true
  pub handed_in : Among (record { connection = to.connection; bytes = take n (result_at w.time to h).out }) from.handed

abbrev pub DataAreTheUsers : Type 0
DataAreTheUsers =
    EveryRun (BothWays (λ w to from. (h : Happening) (n : ℕ) → Lawful w to from h → (result_at w.time to h).outcome.front ≡ datum n
    → TheUsers w to from h n))

-- from user to user: what one received is what the other handed in, in the same order and in the same connections, with some left out
abbrev pub UsersGetWhatUsersGave : Type 0
UsersGetWhatUsersGave = EveryRun (BothWays (λ w to from. Picked to.received from.handed))
