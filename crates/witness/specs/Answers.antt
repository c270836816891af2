-- Every answer is given.
use Rattle.std.specs.Prelude.{ℕ, ◌≤◌, List, ◌≡◌}
use Rattle.rules.specs.declared.settings.Settings.{Settings}
use Rattle.rules.specs.declared.state.Role.{Role}
use Rattle.judge.specs.declared.clock.Reading.{Reading}
use Rattle.rules.specs.Claims.{answer_of}
use Rattle.rules.specs.Make.{made_of, made_number}
use Rattle.run.specs.Run.{Making, Sound, Call, entry_of}

-- in some run, some event is answered so
pub record IsGiven (n : ℕ) : Type 0 where
  pub making : Making
  pub sound : Sound making
  pub before : List Call
  pub newest : Call
  pub answered : answer_of (entry_of making before newest).result ≡ n

-- 1 answers no event
abbrev pub EveryAnswer : Type 0
EveryAnswer = (n : ℕ) → n ≤ 14 → (n ≡ 1 → ⊥) → IsGiven n

-- it answers `make`, where the life sign would come no earlier than silence: no end is made
abbrev pub unsettled : Settings
unsettled = record { age = 50; spread = 20; silence = 300; life_sign = 300; wait = 500; retry = 1_000; jump = 4; errors = 2 }

abbrev pub OneIsGiven : Type 0
OneIsGiven = (role : Role) (at : Reading) → made_number (made_of role at unsettled) ≡ 1
