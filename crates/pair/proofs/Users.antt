-- The way of train data: handed in, waiting, sent, delivered, received, in one order all along. Nothing here is about numbers or clocks.
use Prim.Native.Nat.{ℕ}
use mathlib.Core.Bool.{false, cond, false≢true}
use mathlib.Core.List.{List, [], ◌∷◌, ◌++◌}
use mathlib.Core.Logic.{inl}
use mathlib.Core.Path.{◌≡◌, refl, sym, subst, ◌∙◌}
use Rattle.rules.specs.declared.state.Life.{Life}
use Rattle.rules.specs.declared.state.Life.TheVariants.{Up}
use Rattle.pair.specs.Among.{Picked}
use Rattle.pair.specs.World.{Datum, Delivery}
use Rattle.pair.specs.Happening.{Happening}
use Rattle.pair.specs.Run.{Origin, fresh_side}
use Rattle.pair.proofs.Notes.{Note, note_of}
use Rattle.pair.proofs.Picked.{picked_tail}
use Rattle.pair.proofs.View.{User, View, view_of, serving, sending, entering, datum_of}
use Rattle.pair.proofs.Change.{Waits, Takes, Change, is_train}
use Rattle.pair.proofs.Change.Change.{falls, gauges, lives, serves, sends, hears, delivers}
use Rattle.pair.proofs.Change.Takes.{no_data, given, oldest}
use Rattle.pair.proofs.Change.Waits.{marks, holds}

-- ---- the lists

-- the train data of a log
abbrev pub trains_in : List Note → List Datum
trains_in [] = []
trains_in (n ∷ log) = cond (is_train n.message.body) (datum_of n.letter.connection n.train ∷ trains_in log) (trains_in log)

-- the train data of deliveries
abbrev pub trains_of : List Delivery → List Datum
trains_of [] = []
trains_of (d ∷ before) =
    cond (is_train (note_of d.letter).message.body) (datum_of d.connection (note_of d.letter).train ∷ trains_of before) (trains_of before)

-- those that wait, the oldest first, will follow those that were sent, the newest first
abbrev pub followed : ℕ → List (List ℕ) → List Datum → List Datum
followed c [] sent = sent
followed c (d ∷ waiting) sent = followed c waiting (datum_of c d ∷ sent)

follow_last : (c : ℕ) (waiting : List (List ℕ)) (d : List ℕ) (sent : List Datum)
    → followed c (waiting ++ (d ∷ [])) sent ≡ datum_of c d ∷ followed c waiting sent
follow_last c [] d sent = refl
follow_last c (e ∷ waiting) d sent = follow_last c waiting d (datum_of c e ∷ sent)

only_sent : (c : ℕ) (waiting : List (List ℕ)) (sent handed : List Datum) → Picked (followed c waiting sent) handed → Picked sent handed
only_sent c [] sent handed p = p
only_sent c (d ∷ waiting) sent handed p =
    picked_tail (datum_of c d) sent handed (only_sent c waiting (datum_of c d ∷ sent) handed p)

-- ---- what stays true

abbrev pub Users : View → Type 0
Users x =
    record {
      -- nothing waits but while Up, and then only behind what has gone since the last tick
      early : (x.life ≡ Up → ⊥) → x.user.waiting ≡ [];
      calm : x.life ≡ Up → x.user.busy ≡ false → x.user.waiting ≡ [];
      passed : Picked (followed x.connection x.user.waiting (trains_in x.story.log)) x.user.handed;
      got : x.user.received ≡ trains_of x.story.delivered;
    }

-- what was sent was handed in
pub sent_only : (x : View) → Users x → Picked (trains_in x.story.log) x.user.handed
sent_only x f = only_sent x.connection x.user.waiting (trains_in x.story.log) x.user.handed f.passed

pub users_begun : (o : Origin) → Users (view_of (fresh_side o))
users_begun o = record { early = λ _. refl; calm = λ _ _. refl; passed = refl; got = refl }

pub users_enters : (life : Life) (name : ℕ) (x : View) → Users x → Users (entering life name x)
users_enters life name x f = record { early = λ _. refl; calm = λ _ _. refl; passed = sent_only x f; got = f.got }

-- ---- every change

module _ (time : ℕ) (c : Happening) (x : View) (f : Users x) where
  wait : (user : User) → Waits c x user → Users (serving user x)
  wait user (marks busy none) = record { early = f.early; calm = none; passed = f.passed; got = f.got }
  wait user (holds up busy) =
      record {
        early = λ low. absurd (low up);
        calm = λ _ t. absurd (false≢true (sym t ∙ busy));
        passed =
            inl (
              followed x.connection x.user.waiting (trains_in x.story.log),
              follow_last x.connection x.user.waiting c.given (trains_in x.story.log),
              f.passed,
            );
        got = f.got;
      }

  take : (n : Note) (user : User) → n.letter.connection ≡ x.connection → Takes c x n user → Users (sending n (serving user x))
  take n user same (no_data plain) = record { early = f.early; calm = f.calm; passed = rw plain f.passed; got = f.got }
  take n user same (given train is up free) =
      record {
        early = λ low. absurd (low up);
        calm = λ _ t. absurd (false≢true (sym t));
        passed = rw (f.calm up free, train, same, is) (inl (trains_in x.story.log, refl, sent_only x f));
        got = f.got;
      }
  take n user same (oldest train rest is up) =
      record {
        early = λ low. absurd (low up);
        calm = λ _ t. absurd (false≢true (sym t));
        passed = rw (train, same)
            (subst (λ (l : List (List ℕ)). Picked (followed x.connection l (trains_in x.story.log)) x.user.handed) is f.passed);
        got = f.got;
      }

  pub users_kept : (y : View) → Change time c x y → Users y
  users_kept y falls = record { early = λ _. refl; calm = λ _ _. refl; passed = sent_only x f; got = f.got }
  users_kept y (gauges pair none) = f
  users_kept y (lives life k) =
      record { early = λ _. f.early k.low; calm = λ _ _. f.early k.low; passed = f.passed; got = f.got }
  users_kept y (serves user k) = wait user k
  users_kept y (sends n user k t) = take n user k.connection t
  users_kept y (hears h body k) = f
  users_kept y (delivers h body k up six young) = record { early = f.early; calm = f.calm; passed = f.passed; got = rw (k.says, f.got) }
