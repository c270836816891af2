-- An end releases while it is Up, and while it starts, as `ReleasedIsDown` asks; and one failure of two releases nothing.
use Rattle.std.specs.Prelude.{Bool, true, false, List, ◌∷◌, ◌≡◌, ℕ}
use Rattle.rules.specs.declared.state.Life.TheVariants.{Idle}
use Rattle.run.specs.Run.{Call, after, entry_of}
use Rattle.history.specs.Seen.{seen, seen_of, number_in, stands_up}
use Rattle.witness.specs.Ends.{initiator}
use Rattle.witness.specs.Table.{Row, calls_in, ran, next}
use Rattle.witness.specs.Initiator.{rising, in_turn, repeated, until_late, again, until_asked, wrong_echo}

-- after some events one more is answered n and releases: the end stood up or not, and is Idle
abbrev pub Releases : List Row → Call → ℕ → Bool → Type 0
Releases xs c n up =
    let x = seen_of (next initiator xs c) in
    (number_in x ≡ n) × (stands_up (seen (ran initiator xs)) ≡ up) × (x.flags.release ≡ true)
    × (((after initiator (c ∷ calls_in xs)).end.life ≡ Idle) × (x.flags.down ≡ stands_up (seen (ran initiator xs))))

-- the second failure of two
abbrev pub ReleasesUp : Type 0
ReleasesUp = Releases until_late again 9 true

-- a wrong echo
abbrev pub ReleasesStarting : Type 0
ReleasesStarting = Releases until_asked wrong_echo 8 false

-- the first failure of two has the same answer
abbrev pub ReleasesNothing : Type 0
ReleasesNothing =
    let x = seen_of (entry_of initiator (in_turn ∷ calls_in rising) repeated) in
    (number_in x ≡ 9) × (x.flags.release ≡ false)
