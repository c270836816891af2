-- The log with every letter read: each letter is parsed here, once, and what follows speaks of messages.
use Rattle.std.specs.Prelude.{None, Option, Some}
use Prim.Native.Nat.{ℕ, suc}
use mathlib.Core.Bool.{true}
use mathlib.Core.List.{List, [], ◌∷◌}
use mathlib.Core.Logic.{inl, inr}
use mathlib.Core.Path.{◌≡◌, refl, ap, ap₂, ◌∙◌}
use lib.ListN.{length}
use Rattle.wire.proofs.Claims.{reads_back}
use Rattle.wire.specs.Claims.{Fits, carried}
use Rattle.wire.specs.Message.{encode, parse, train_in}
use Rattle.wire.specs.Writing.{carries}
use Rattle.wire.specs.declared.message.Body.TheVariants.{LifeSign}
use Rattle.wire.specs.declared.message.Message.{Message}
use Rattle.rules.specs.State.{zero_reading}
use Rattle.pair.specs.Among.{Among}
use Rattle.pair.specs.World.{Letter}
use Rattle.pair.specs.Order.{InPlace}

-- a letter, its message, and the train data that this carries
pub record Note : Type 0 where
  pub letter : Letter
  pub message : Message
  pub train : List ℕ

-- what is made of bytes that are no message; no end sends any
abbrev nonsense : Message
nonsense =
    record {
      header = record { stamps = record { sent = zero_reading; echo = zero_reading; receipt = zero_reading }; number = 0 };
      body = LifeSign;
    }

abbrev message_in : Option Message → Message
message_in (Some m) = m
message_in None = nonsense

unfoldable pub note_of : Letter → Note
note_of l =
    let m = message_in (parse l.bytes) in record { letter = l; message = m; train = carried m.body (train_in l.bytes) }

abbrev pub notes_of : List Letter → List Note
notes_of [] = []
notes_of (l ∷ ls) = note_of l ∷ notes_of ls

-- ---- one letter

pub note_letter : (l : Letter) → (note_of l).letter ≡ l
unfolding note_of
note_letter l = refl

pub note_reads : (l : Letter) (m : Message) → parse l.bytes ≡ Some m
    → ((note_of l).message ≡ m) × ((note_of l).train ≡ carried m.body (train_in l.bytes))
unfolding note_of
note_reads l m reads =
    (ap message_in reads, ap (λ (p : Option Message). carried (message_in p).body (train_in l.bytes)) reads)

-- what was written is read
pub note_written : (l : Letter) (m : Message) (d : List ℕ) → l.bytes ≡ encode m d → Fits m → carries m.body d ≡ true
    → (parse l.bytes ≡ Some m) × (note_of l ≡ record { letter = l; message = m; train = carried m.body d })
unfolding note_of
note_written l m d is fits ok =
    let back = reads_back m d fits ok in
    let reads = ap parse is ∙ back.0 in
    let note = note_reads l m reads in (
      reads,
      ap₂ (λ (k : Message) (t : List ℕ). record { letter = l; message = k; train = t }) note.0
          (note.1 ∙ ap (λ (b : List ℕ). carried m.body (train_in b)) is ∙ back.1),
    )

-- ---- the log

pub notes_length : (ls : List Letter) → length (notes_of ls) ≡ length ls
notes_length [] = refl
notes_length (l ∷ ls) = ap suc (notes_length ls)

pub note_among : (ls : List Letter) (l : Letter) → Among l ls → Among (note_of l) (notes_of ls)
note_among [] l x = elim x [ ]
note_among (k ∷ ls) l (inl is) = inl (ap note_of is)
note_among (k ∷ ls) l (inr i) = inr (note_among ls l i)

pub among_letter : (ls : List Letter) (n : Note) → Among n (notes_of ls) → Among n.letter ls
among_letter [] n x = elim x [ ]
among_letter (k ∷ ls) n (inl is) = inl (ap (λ (m : Note). m.letter) is ∙ note_letter k)
among_letter (k ∷ ls) n (inr i) = inr (among_letter ls n i)

-- each stands at the place that it says
abbrev pub Placed : List Note → Type 0
Placed [] = Unit {0}
Placed (n ∷ before) = (n.letter.place ≡ length before) × Placed before

pub placed_in_place : (ls : List Letter) → Placed (notes_of ls) → InPlace ls
unfolding note_of
placed_in_place [] p = tt
placed_in_place (l ∷ ls) p = (p.0 ∙ notes_length ls, placed_in_place ls p.1)
