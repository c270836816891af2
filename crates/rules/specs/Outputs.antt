-- What one event puts out, in its order.
use Rattle.std.specs.Prelude.{ℕ, Bool, cond, List, [], ◌∷◌, ◌++◌, take}
use Rattle.rules.specs.declared.effect.Flags.{Flags}
use Rattle.rules.specs.declared.effect.Front.{Front}
use Rattle.rules.specs.declared.effect.Front.TheVariants.{Nothing, Message, Datum}

-- a report, or the bytes of a message or of a datum
pub data Output : Type 0 where
  ask : Output
  accept : Output
  send : List ℕ → Output
  datum : List ℕ → Output
  up : Output
  error : Output
  release : Output
  down : Output

abbrev pub reported : Bool → Output → List Output
reported it output = cond it (output ∷ []) []

-- what stands at the front of the lent output
abbrev pub front_output : Front → List ℕ → List Output
front_output Nothing out = []
front_output (Message n) out = send (take n out) ∷ []
front_output (Datum n) out = datum (take n out) ∷ []

-- sends precede `up`, and `error` precedes `release`
abbrev pub outputs_of : Flags → Front → List ℕ → List Output
outputs_of f front out =
    reported f.ask ask ++ reported f.accept accept ++ front_output front out ++ reported f.up up ++ reported f.error error
    ++ reported f.release release
    ++ reported f.down down
