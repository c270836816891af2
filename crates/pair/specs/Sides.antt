-- Claims: each side of a run of two ends is a run of one end, whatever the channel does. So all that holds of one end's runs holds here.
use Rattle.std.specs.Prelude.{List, [], ◌∷◌, ◌≡◌}
use Rattle.run.specs.Run.{Call, after as end_after}
use Rattle.pair.specs.Happening.{call_at, kept_of}
use Rattle.pair.specs.Run.{Beginning, Move, after}
use Rattle.pair.specs.Run.Move.{wait, at_left, at_right}

-- the calls that moves make at each side, the newest first
abbrev pub calls_at_left : Beginning → List Move → List Call
calls_at_left b [] = []
calls_at_left b (wait n ∷ ms) = calls_at_left b ms
calls_at_left b (at_left h ∷ ms) = call_at (after b ms).time (after b ms).left h ∷ calls_at_left b ms
calls_at_left b (at_right h ∷ ms) = calls_at_left b ms

abbrev pub calls_at_right : Beginning → List Move → List Call
calls_at_right b [] = []
calls_at_right b (wait n ∷ ms) = calls_at_right b ms
calls_at_right b (at_left h ∷ ms) = calls_at_right b ms
calls_at_right b (at_right h ∷ ms) = call_at (after b ms).time (after b ms).right h ∷ calls_at_right b ms

-- also where a move may not be made
abbrev pub EachSideIsARun : Type 0
EachSideIsARun =
    (b : Beginning) (ms : List Move)
    → (kept_of (after b ms).left ≡ end_after b.left.making (calls_at_left b ms))
    × (kept_of (after b ms).right ≡ end_after b.right.making (calls_at_right b ms))

-- the ends keep the settings that they were made with, so every limit below is the one that the installer set
abbrev pub SettingsStay : Type 0
SettingsStay =
    (b : Beginning) (ms : List Move)
    → ((after b ms).left.end.settings ≡ b.left.making.settings) × ((after b ms).right.end.settings ≡ b.right.making.settings)
