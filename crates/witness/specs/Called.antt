-- A long run of a called end: it hears what the initiator of the other run says, and comes Up and goes down in other ways.
use Rattle.std.specs.Prelude.{◌^◌, ◌-◌, List, [], ◌∷◌, ◌++◌}
use Rattle.witness.specs.Ends.{called, tick, connect, disconnect, user, comes, bare, estimate, life_sign, train}
use Rattle.witness.specs.Table.{Row, row, Happens}
use Rattle.rules.specs.Outputs.Output.{accept, send, datum as give, up, release, down}

-- it accepts, answers kinds 1 and 3, and is Up with kind 5; its minimum is 0 less 59
abbrev pub answering : List Row
answering =
    row (connect 45) 0 (accept ∷ [])
    ∷ row (comes 50 (bare 1 0 103 0 0)) 0 (send (bare 2 0 50 103 50) ∷ [])
    ∷ row (comes 60 (bare 3 1 109 50 109)) 0 (send (estimate 1 60 109 60 (2 ^ 32 - 59) (2 ^ 32 - 49)) ∷ [])
    ∷ row (comes 66 (bare 5 2 115 60 115)) 0 (up ∷ [])
    ∷ []

-- data are delivered; a life sign leaves S ticks after coming Up, and not a tick before
abbrev pub beating : List Row
beating =
    row (comes 70 (train 3 116 60 115 (7 ∷ []))) 0 (give (7 ∷ []) ∷ [])
    ∷ row (tick 165) 0 []
    ∷ row (tick 166) 0 (send (life_sign 2 166 116 70) ∷ [])
    ∷ []

-- two data wait, and one leaves
abbrev pub holding : List Row
holding =
    row (user 167 (5 ∷ [])) 0 []
    ∷ row (user 168 (6 ∷ [])) 0 []
    ∷ row (tick 169) 0 (send (train 3 169 116 70 (5 ∷ [])) ∷ [])
    ∷ []

-- a new connection while Up: the other datum is lost. Nobody speaks in it for T ticks
abbrev pub waiting_in_vain : List Row
waiting_in_vain =
    row (connect 170) 0 (accept ∷ down ∷ [])
    ∷ row (tick 669) 0 []
    ∷ row (tick 670) 12 (release ∷ [])
    ∷ row (disconnect 671) 3 []
    ∷ []

-- the peer goes; then the spread is 21, one more than W
abbrev pub measuring_too_wide : List Row
measuring_too_wide =
    row (connect 700) 0 (accept ∷ [])
    ∷ row (disconnect 701) 0 []
    ∷ row (connect 710) 0 (accept ∷ [])
    ∷ row (comes 720 (bare 1 0 773 0 0)) 0 (send (bare 2 0 720 773 720) ∷ [])
    ∷ row (comes 741 (bare 3 1 780 720 780)) 8 (release ∷ [])
    ∷ []

-- Up again, and R ticks of silence: it speaks once more, and falls
abbrev pub falling_silent : List Row
falling_silent =
    row (connect 800) 0 (accept ∷ [])
    ∷ row (comes 810 (bare 1 0 863 0 0)) 0 (send (bare 2 0 810 863 810) ∷ [])
    ∷ row (comes 820 (bare 3 1 869 810 869)) 0 (send (estimate 1 820 869 820 (2 ^ 32 - 59) (2 ^ 32 - 49)) ∷ [])
    ∷ row (comes 826 (bare 5 2 875 820 875)) 0 (up ∷ [])
    ∷ row (tick 1_125) 0 (send (life_sign 2 1_125 875 826) ∷ [])
    ∷ row (tick 1_126) 12 (release ∷ down ∷ [])
    ∷ []

-- ---- the run, whole and in part

abbrev pub until_held : List Row
until_held = answering ++ (beating ++ holding)

abbrev pub long_run : List Row
long_run = until_held ++ (waiting_in_vain ++ (measuring_too_wide ++ falling_silent))

abbrev pub CalledHappens : Type 0
CalledHappens = Happens called long_run
