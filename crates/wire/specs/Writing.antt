-- What a lent output holds once a message has been written over its front.
use Rattle.std.specs.Prelude.{ℕ, Bool, true, cond, ◌&&◌, List, ◌++◌, leb, length, drop}
use Rattle.wire.specs.Message.{encode, longest}
use Rattle.wire.specs.declared.message.Body.{Body}
use Rattle.wire.specs.declared.message.Body.TheVariants.{OffsetStart, OffsetAnsw1, OffsetAnsw2, OffsetEst, OffsetEnd, LifeSign, TrainData}
use Rattle.wire.specs.declared.message.Message.{Message}

-- b at the front of s, every later byte as it was
abbrev pub over : List ℕ → List ℕ → List ℕ
over b s = b ++ drop (length b) s

-- s with b over its front where there is room for b, and how many bytes that wrote
abbrev pub placed : List ℕ → List ℕ → List ℕ
placed b s = cond (leb (length b) (length s)) (over b s) s

abbrev pub placed_count : List ℕ → List ℕ → ℕ
placed_count b s = cond (leb (length b) (length s)) (length b) 0

-- train data have 1 to `longest` bytes; no other body looks at d
abbrev pub carries : Body → List ℕ → Bool
carries OffsetStart d = true
carries OffsetAnsw1 d = true
carries OffsetAnsw2 d = true
carries (OffsetEst minimum maximum) d = true
carries OffsetEnd d = true
carries LifeSign d = true
carries TrainData d = leb 1 (length d) && leb (length d) longest

-- the output after m with the train data d was written over the output s, and how many bytes that wrote
abbrev pub written : Message → List ℕ → List ℕ → List ℕ
written m d s = cond (carries m.body d) (placed (encode m d) s) s

abbrev pub written_count : Message → List ℕ → List ℕ → ℕ
written_count m d s = cond (carries m.body d) (placed_count (encode m d) s) 0
