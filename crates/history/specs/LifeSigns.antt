-- Kind 6, life signs and user data alike: only while Up, and at most one in or after each tick or coming Up and before the next.
use Rattle.std.specs.Prelude.{ℕ, ◌+◌, ◌≤◌, Bool, true, cond, not, ◌||◌, ◌&&◌, List, [], ◌∷◌, ◌≡◌, eqb, get_or}
use Rattle.rules.specs.declared.effect.Front.{Front}
use Rattle.rules.specs.declared.effect.Front.TheVariants.{Nothing as none, Message as message, Datum as datum}
use Rattle.rules.specs.declared.state.Life.TheVariants.{Up}
use Rattle.run.specs.Run.{Call, Making, after, entry_of, history}
use Rattle.run.specs.Events.{is_tick, is_dropped}
use Rattle.history.specs.Seen.{Seen, seen, seen_of, number_in, counted, stands_up}

-- the kind of the message that leaves, which is its first byte; 0 where none leaves
abbrev pub kind_at : Front → List ℕ → ℕ
kind_at none out = 0
kind_at (message n) out = get_or out 0 0
kind_at (datum n) out = 0

-- a kind 6 leaves
abbrev pub speaks : Seen → Bool
speaks x = eqb (kind_at x.front x.out) 6

-- a tick that is not dropped, or the coming Up
abbrev pub begins_anew : Seen → Bool
begins_anew x = x.flags.up || (is_tick x.event && not (is_dropped (number_in x)))

abbrev pub kind6_after : Seen → ℕ → ℕ
kind6_after x before = cond (begins_anew x) 0 before + counted (speaks x)

-- how many kind 6 have left in or after the last tick or coming Up
unfoldable pub kind6_since : List Seen → ℕ
kind6_since [] = 0
kind6_since (x ∷ before) = kind6_after x (kind6_since before)

-- an event that sends one begins and ends Up
abbrev pub SpeaksWhileUp : Type 0
SpeaksWhileUp =
    (m : Making) (cs : List Call) (c : Call) → speaks (seen_of (entry_of m cs c)) ≡ true
    → ((after m cs).end.life ≡ Up) × ((after m (c ∷ cs)).end.life ≡ Up)

abbrev pub SpeaksOnce : Type 0
SpeaksOnce = (m : Making) (cs : List Call) → kind6_since (seen (history m cs)) ≤ 1

-- the mark that an end keeps: it stands up, and one has left
abbrev pub is_busy : Bool → ℕ → Bool
is_busy up left = up && eqb left 1

abbrev pub BusyAsSeen : Type 0
BusyAsSeen =
    (m : Making) (cs : List Call) → let xs = seen (history m cs) in
    (after m cs).end.line.busy ≡ is_busy (stands_up xs) (kind6_since xs)
