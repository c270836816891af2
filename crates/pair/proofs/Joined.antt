-- Nothing is sent in connection 0: an end that is awake is in a connection from 1 on, but for one that is Greeted and has heard
-- nothing; and there it hears nothing.
use Prim.Native.Nat.{ℕ, ◌≤◌}
use native.Mathlib.Omega.{arith}
use mathlib.Core.List.{List}
use mathlib.Core.Logic.{◌⊎◌, inl, inr}
use mathlib.Core.Path.{◌≡◌, refl}
use Rattle.wire.specs.declared.message.Header.{Header}
use Rattle.rules.specs.declared.act.Event.TheVariants.{Message}
use Rattle.rules.specs.declared.state.Life.{Life}
use Rattle.rules.specs.declared.state.Life.TheVariants.{Idle, Greeted}
use Rattle.pair.specs.Among.{Among}
use Rattle.pair.specs.Happening.{Happening}
use Rattle.pair.specs.Run.{Origin, fresh_side}
use Rattle.pair.proofs.Among.{with_new}
use Rattle.pair.proofs.Notes.{Note, note_of}
use Rattle.pair.proofs.View.{View, view_of, entering}
use Rattle.pair.proofs.Change.{Change, heard}
use Rattle.pair.proofs.Change.Change.{falls, gauges, lives, serves, sends, hears, delivers}
use Rattle.pair.proofs.Carried.{MayCome}

-- whatever was sent was sent in a connection
abbrev pub AllIn : List Note → Type 0
AllIn log = (n : Note) → Among n log → 1 ≤ n.letter.connection

abbrev pub Joined : View → Type 0
Joined x =
    record {
      in_one : (x.life ≡ Idle → ⊥) → (x.life ≡ Greeted → 1 ≤ x.count.accepted) → 1 ≤ x.connection;
      log : AllIn x.story.log;
    }

pub joined_begun : (o : Origin) → Joined (view_of (fresh_side o))
joined_begun o = record { in_one = λ alive. absurd (alive refl); log = λ n i. absurd i }

pub joined_enters : (life : Life) (name : ℕ) (x : View) → Joined x → (life ≡ Greeted) ⊎ (1 ≤ name) → Joined (entering life name x)
joined_enters life name x j (inl is) = record { in_one = λ _ met. (let none = met is in absurd (omega arith)); log = j.log }
joined_enters life name x j (inr some) = record { in_one = λ _ _. some; log = j.log }

module _ (time : ℕ) (c : Happening) (x : View) (log : List Note) (j : Joined x) (peer : AllIn log) (may : MayCome time c x log) where
  -- the letter was sent in a connection, and in the same
  hear : (h : Header) → c.event ≡ Message → Joined (heard time c h x)
  unfolding note_of
  hear h comes =
      let m = may comes in
      let some = peer (note_of c.letter) m.was_sent in
      let same = m.same_connection in
      record { in_one = λ _ _. omega arith; log = j.log }

  pub joined_kept : (y : View) → Change time c x y → Joined y
  joined_kept y falls = record { in_one = λ alive. absurd (alive refl); log = j.log }
  joined_kept y (gauges pair none) = j
  joined_kept y (lives life k) = record { in_one = λ _ _. j.in_one k.alive k.greeted; log = j.log }
  joined_kept y (serves user k) = j
  joined_kept y (sends n user k t) =
      let some = j.in_one k.alive k.greeted in
      let same = k.connection in
      record { in_one = j.in_one; log = with_new n x.story.log (λ (m : Note). 1 ≤ m.letter.connection) (omega arith) j.log }
  joined_kept y (hears h body k) = hear h k.comes
  joined_kept y (delivers h body k up six young) = hear h k.comes
