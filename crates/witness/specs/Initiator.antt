-- A long run of an initiator, in which every answer of an event is given.
use Rattle.std.specs.Prelude.{◌^◌, ◌-◌, List, [], ◌∷◌, ◌++◌}
use Rattle.run.specs.Run.{Call}
use Rattle.witness.specs.Ends.{initiator, tick, cramped_tick, confirm, user, comes, bare, estimate, life_sign, train}
use Rattle.witness.specs.Table.{Row, row, Happens}
use Rattle.rules.specs.Outputs.Output.{ask, send, datum as give, up, error, release, down}

-- it asks, is confirmed, measures a minimum of 53 and a maximum of 59, and comes Up at 115
abbrev pub rising : List Row
rising =
    row (tick 100) 0 (ask ∷ [])
    ∷ row (confirm 103) 0 (send (bare 1 0 103 0 0) ∷ [])
    ∷ row (comes 109 (bare 2 0 50 103 50)) 0 (send (bare 3 1 109 50 109) ∷ [])
    ∷ row (comes 115 (estimate 1 60 109 60 (2 ^ 32 - 59) (2 ^ 32 - 49))) 0 (send (bare 5 2 115 60 115) ∷ up ∷ [])
    ∷ []

-- the first data of the user go at once and the next ones wait; none are too short; a tick sends the oldest
abbrev pub speaking : List Row
speaking =
    row (user 116 (7 ∷ [])) 0 (send (train 3 116 60 115 (7 ∷ [])) ∷ [])
    ∷ row (user 117 (8 ∷ [])) 0 []
    ∷ row (user 118 []) 4 []
    ∷ row (user 119 (9 ∷ [])) 0 []
    ∷ row (tick 120) 0 (send (train 4 120 60 115 (8 ∷ [])) ∷ [])
    ∷ []

-- until eight wait, and no more are taken
abbrev pub filling : List Row
filling =
    row (user 121 (10 ∷ [])) 0 []
    ∷ row (user 122 (11 ∷ [])) 0 []
    ∷ row (user 123 (12 ∷ [])) 0 []
    ∷ row (user 124 (13 ∷ [])) 0 []
    ∷ row (user 125 (14 ∷ [])) 0 []
    ∷ row (user 126 (15 ∷ [])) 0 []
    ∷ row (user 127 (16 ∷ [])) 0 []
    ∷ row (user 128 (17 ∷ [])) 5 []
    ∷ []

abbrev pub in_turn : Call
in_turn = comes 131 (train 2 70 115 66 (1 ∷ 2 ∷ 3 ∷ []))

abbrev pub repeated : Call
repeated = comes 132 (train 2 70 115 66 (1 ∷ 2 ∷ 3 ∷ []))

-- three bytes are no message, and kind 1 is not awaited; then train data are delivered, come again, and a life sign follows
abbrev pub hearing : List Row
hearing =
    row (comes 129 (1 ∷ 2 ∷ 3 ∷ [])) 6 []
    ∷ row (comes 130 (bare 1 2 70 0 0)) 7 []
    ∷ row in_turn 0 (give (1 ∷ 2 ∷ 3 ∷ []) ∷ [])
    ∷ row repeated 9 (error ∷ [])
    ∷ row (comes 133 (life_sign 3 75 115 66)) 0 []
    ∷ []

-- numbers 4 and 5 are missing, and 7 is 57 ticks old; one more leaves the queue
abbrev pub gapped : Call
gapped = comes 140 (train 6 80 115 66 (4 ∷ []))

abbrev pub failing : List Row
failing =
    row gapped 13 (give (4 ∷ []) ∷ error ∷ [])
    ∷ row (comes 195 (train 7 85 115 66 (5 ∷ []))) 11 (error ∷ [])
    ∷ row (tick 196) 0 (send (train 5 196 80 140 (9 ∷ [])) ∷ [])
    ∷ []

-- the second failure in a row takes the end down, and seven are lost
abbrev pub again : Call
again = comes 197 (train 6 80 115 66 (4 ∷ []))

abbrev pub falling : List Row
falling = row again 9 (error ∷ release ∷ down ∷ []) ∷ []

-- Idle: a message has no rule; too little room; the clock went back
abbrev pub resting : List Row
resting =
    row (comes 198 (life_sign 8 90 115 66)) 3 []
    ∷ row (cramped_tick 199) 14 []
    ∷ row (tick 99) 2 []
    ∷ []

-- it asks at once
abbrev pub asking : List Row
asking = row (tick 200) 0 (ask ∷ []) ∷ row (confirm 201) 0 (send (bare 1 0 201 0 0) ∷ []) ∷ []

-- and falls over a wrong echo; it asks again after C ticks, and falls after T more
abbrev pub wrong_echo : Call
wrong_echo = comes 210 (bare 2 0 150 200 150)

abbrev pub trying : List Row
trying =
    row wrong_echo 8 (release ∷ [])
    ∷ row (tick 1_199) 0 []
    ∷ row (tick 1_200) 0 (ask ∷ [])
    ∷ row (tick 1_699) 0 []
    ∷ row (tick 1_700) 12 (release ∷ [])
    ∷ []

-- it comes Up again, in a connection with numbers from 0 on
abbrev pub rising_again : List Row
rising_again =
    row (tick 2_200) 0 (ask ∷ [])
    ∷ row (confirm 2_203) 0 (send (bare 1 0 2_203 0 0) ∷ [])
    ∷ row (comes 2_209 (bare 2 0 2_150 2_203 2_150)) 0 (send (bare 3 1 2_209 2_150 2_209) ∷ [])
    ∷ row (comes 2_215 (estimate 1 2_160 2_209 2_160 (2 ^ 32 - 59) (2 ^ 32 - 49))) 0 (send (bare 5 2 2_215 2_160 2_215) ∷ up ∷ [])
    ∷ []

-- the number is 5 ahead, one more than N: down
abbrev pub losing : List Row
losing = row (comes 2_220 (train 6 2_165 2_215 2_166 (6 ∷ []))) 10 (release ∷ down ∷ []) ∷ []

-- ---- the run, whole and in part

abbrev pub until_full : List Row
until_full = rising ++ (speaking ++ filling)

abbrev pub until_heard : List Row
until_heard = until_full ++ hearing

abbrev pub until_late : List Row
until_late = until_heard ++ failing

abbrev pub until_down : List Row
until_down = until_late ++ falling

abbrev pub until_asked : List Row
until_asked = until_down ++ (resting ++ asking)

abbrev pub until_up_again : List Row
until_up_again = until_asked ++ (trying ++ rising_again)

abbrev pub long_run : List Row
long_run = until_up_again ++ losing

abbrev pub InitiatorHappens : Type 0
InitiatorHappens = Happens initiator long_run
