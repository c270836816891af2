-- A long run of two ends over a bad channel. The initiator's clock wraps 150 ticks after the beginning; the called end's is
-- 3,000,000,150 ticks ahead of it at every moment. The channel loses, repeats and reorders; the link is lost and comes back.
use Rattle.std.specs.Prelude.{ℕ, ◌+◌, ◌-◌, ◌%◌, ◌^◌, List, [], ◌∷◌, ◌++◌, ◌≡◌}
use Rattle.rules.specs.declared.state.Life.TheVariants.{Up}
use Rattle.pair.specs.World.{Letter}
use Rattle.pair.specs.Run.{Beginning}
use Rattle.rules.specs.declared.state.Role.TheVariants.{Initiator, Called}
use Rattle.witness.specs.Ends.{settings, bare, estimate, life_sign, train}
use Rattle.rules.specs.Outputs.Output.{ask, accept, send, datum as give, up, error, down}
use Rattle.witness.specs.PairTable.{made, beginning, letter, tick, connect, confirm, disconnect, user, comes, Row, reached, Happens}
use Rattle.witness.specs.PairTable.Row.{left, right}

abbrev pub start : Beginning
start = beginning (made Initiator settings (2 ^ 32 - 150)) (made Called settings 3_000_000_000)

-- what the clock of the initiator, and that of the called end, reads at a time
abbrev pub l : ℕ → ℕ
l time = (time + 4_294_967_146) % 2 ^ 32

abbrev pub r : ℕ → ℕ
r time = time + 3_000_000_000

-- ---- what the initiator sends in the first connection

abbrev pub l0 : Letter
l0 = letter 1 0 5 0 (bare 1 0 (l 5) 0 0)

abbrev pub l1 : Letter
l1 = letter 1 1 14 1 (bare 3 1 (l 14) (r 9) (l 14))

abbrev pub l2 : Letter
l2 = letter 1 2 23 2 (bare 5 2 (l 23) (r 20) (l 23))

abbrev pub l3 : Letter
l3 = letter 1 3 24 3 (train 3 (l 24) (r 20) (l 23) (1 ∷ 2 ∷ 3 ∷ []))

-- 10 ticks before its clock wraps
abbrev pub l4 : Letter
l4 = letter 1 4 140 4 (train 4 (l 140) (r 42) (l 45) (4 ∷ []))

abbrev pub l5 : Letter
l5 = letter 1 5 180 5 (train 5 (l 180) (r 167) (l 175) (10 ∷ []))

abbrev pub l6 : Letter
l6 = letter 1 6 230 6 (train 6 (l 230) (r 167) (l 175) (11 ∷ []))

-- ---- what the called end sends in it

abbrev pub r0 : Letter
r0 = letter 1 0 9 0 (bare 2 0 (r 9) (l 5) (r 9))

-- the true difference of the clocks, 3,000,000,150, is 5 above the minimum and 6 below the maximum
abbrev pub r1 : Letter
r1 = letter 1 1 20 1 (estimate 1 (r 20) (l 14) (r 20) 3_000_000_145 3_000_000_156)

abbrev pub r2 : Letter
r2 = letter 1 2 31 2 (train 2 (r 31) (l 24) (r 30) (9 ∷ []))

abbrev pub r3 : Letter
r3 = letter 1 3 33 3 (train 3 (r 33) (l 24) (r 30) (8 ∷ 7 ∷ []))

abbrev pub r4 : Letter
r4 = letter 1 4 42 4 (train 4 (r 42) (l 24) (r 30) (6 ∷ []))

abbrev pub r5 : Letter
r5 = letter 1 5 161 5 (life_sign 5 (r 161) (l 140) (r 160))

abbrev pub r6 : Letter
r6 = letter 1 6 167 6 (train 6 (r 167) (l 140) (r 160) (5 ∷ []))

-- ---- what is sent in the second connection: the numbers begin again, the places go on

abbrev pub l7 : Letter
l7 = letter 2 0 285 7 (bare 1 0 (l 285) 0 0)

abbrev pub l8 : Letter
l8 = letter 2 1 290 8 (bare 3 1 (l 290) (r 289) (l 290))

abbrev pub l9 : Letter
l9 = letter 2 2 295 9 (bare 5 2 (l 295) (r 293) (l 295))

abbrev pub l10 : Letter
l10 = letter 2 3 300 10 (train 3 (l 300) (r 293) (l 295) (12 ∷ []))

abbrev pub r7 : Letter
r7 = letter 2 0 289 7 (bare 2 0 (r 289) (l 285) (r 289))

abbrev pub r8 : Letter
r8 = letter 2 1 293 8 (estimate 1 (r 293) (l 290) (r 293) 3_000_000_149 3_000_000_153)

abbrev pub r9 : Letter
r9 = letter 2 2 314 9 (train 2 (r 314) (l 300) (r 310) (13 ∷ []))

-- ---- the run, in parts

-- both come Up. The first message comes twice, and the initiator's first data overtake its last message of the start
abbrev pub rising : List Row
rising =
    left 0 tick 0 (ask ∷ [])
    ∷ right 2 (connect 1) 0 (accept ∷ [])
    ∷ left 3 confirm 0 (send l0.bytes ∷ [])
    ∷ right 4 (comes l0) 0 (send r0.bytes ∷ [])
    ∷ right 1 (comes l0) 7 []
    ∷ left 4 (comes r0) 0 (send l1.bytes ∷ [])
    ∷ right 6 (comes l1) 0 (send r1.bytes ∷ [])
    ∷ left 3 (comes r1) 0 (send l2.bytes ∷ up ∷ [])
    ∷ left 1 (user (1 ∷ 2 ∷ 3 ∷ [])) 0 (send l3.bytes ∷ [])
    ∷ right 2 (comes l3) 7 []
    ∷ right 1 (comes l2) 0 (up ∷ [])
    ∷ []

-- data go both ways. The called end's second data wait for a tick and are overtaken by its third: these leave a gap, and the
-- second are then old. The initiator's first data come again, and are old too
abbrev pub talking : List Row
talking =
    right 3 (comes l3) 0 (give (1 ∷ 2 ∷ 3 ∷ []) ∷ [])
    ∷ right 1 (user (9 ∷ [])) 0 (send r2.bytes ∷ [])
    ∷ right 1 (user (8 ∷ 7 ∷ [])) 0 []
    ∷ right 1 tick 0 (send r3.bytes ∷ [])
    ∷ left 7 (comes r2) 0 (give (9 ∷ []) ∷ [])
    ∷ right 1 tick 0 []
    ∷ right 1 (user (6 ∷ [])) 0 (send r4.bytes ∷ [])
    ∷ left 3 (comes r4) 13 (give (6 ∷ []) ∷ error ∷ [])
    ∷ left 1 (comes r3) 9 (error ∷ [])
    ∷ right 1 (comes l3) 9 (error ∷ [])
    ∷ []

-- the initiator sends data 10 ticks before its clock wraps ..
abbrev pub nearing : List Row
nearing = left 1 tick 0 [] ∷ left 92 (user (4 ∷ [])) 0 (send l4.bytes ∷ []) ∷ []

-- .. and they come 10 ticks after it wrapped. The called end sends a life sign, and data
abbrev pub wrapped : List Row
wrapped =
    right 20 (comes l4) 0 (give (4 ∷ []) ∷ [])
    ∷ right 1 tick 0 (send r5.bytes ∷ [])
    ∷ left 4 (comes r5) 0 []
    ∷ right 1 tick 0 []
    ∷ right 1 (user (5 ∷ [])) 0 (send r6.bytes ∷ [])
    ∷ []

-- those come too, and the initiator sends again
abbrev pub answered : List Row
answered =
    left 8 (comes r6) 0 (give (5 ∷ []) ∷ []) ∷ left 1 tick 0 [] ∷ left 4 (user (10 ∷ [])) 0 (send l5.bytes ∷ []) ∷ []

-- its message is on its way for 45 ticks: that is 50 by the computed age, and fresh
abbrev pub delayed : List Row
delayed =
    right 45 (comes l5) 0 (give (10 ∷ []) ∷ []) ∷ left 1 tick 0 [] ∷ left 4 (user (11 ∷ [])) 0 (send l6.bytes ∷ []) ∷ []

-- its next is on its way for 46, and is late. Then the link is lost, and comes back
abbrev pub returning : List Row
returning =
    right 46 (comes l6) 11 (error ∷ [])
    ∷ left 4 disconnect 0 (down ∷ [])
    ∷ left 1 tick 0 (ask ∷ [])
    ∷ right 2 (connect 2) 0 (accept ∷ down ∷ [])
    ∷ left 2 confirm 0 (send l7.bytes ∷ [])
    ∷ right 4 (comes l7) 0 (send r7.bytes ∷ [])
    ∷ left 1 (comes r7) 0 (send l8.bytes ∷ [])
    ∷ right 3 (comes l8) 0 (send r8.bytes ∷ [])
    ∷ left 2 (comes r8) 0 (send l9.bytes ∷ up ∷ [])
    ∷ right 2 (comes l9) 0 (up ∷ [])
    ∷ []

-- data go both ways again; one message comes twice, and is old the second time
abbrev pub going_on : List Row
going_on =
    left 3 (user (12 ∷ [])) 0 (send l10.bytes ∷ [])
    ∷ right 10 (comes l10) 0 (give (12 ∷ []) ∷ [])
    ∷ right 2 (comes l10) 9 (error ∷ [])
    ∷ right 2 (user (13 ∷ [])) 0 (send r9.bytes ∷ [])
    ∷ left 6 (comes r9) 0 (give (13 ∷ []) ∷ [])
    ∷ []

-- ---- the run, up to some points of it and whole

abbrev pub until_near : List Row
until_near = rising ++ (talking ++ nearing)

abbrev pub until_wrapped : List Row
until_wrapped = until_near ++ wrapped

abbrev pub until_answered : List Row
until_answered = until_wrapped ++ answered

abbrev pub until_delayed : List Row
until_delayed = until_answered ++ delayed

abbrev pub until_returned : List Row
until_returned = until_delayed ++ returning

abbrev pub journey : List Row
journey = until_returned ++ going_on

abbrev pub JourneyHappens : Type 0
JourneyHappens = Happens start journey

-- both ends are Up before the link is lost, and when it has come back
abbrev pub BothUp : List Row → Type 0
BothUp xs = ((reached start xs).left.end.life ≡ Up) × ((reached start xs).right.end.life ≡ Up)

abbrev pub UpTwice : Type 0
UpTwice = BothUp rising × BothUp until_returned
