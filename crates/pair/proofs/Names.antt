-- The names of connections: which asks were made and answered, and who has sent what in them.
use Prim.Native.Nat.{ℕ, ◌+◌, ◌≤◌}
use native.Mathlib.Omega.{arith}
use mathlib.Core.List.{List, [], ◌∷◌}
use mathlib.Core.Logic.{inl, inr}
use mathlib.Core.Path.{◌≡◌, refl, sym, subst}
use Rattle.wire.specs.Message.{kind_of}
use Rattle.wire.specs.declared.message.Header.{Header}
use Rattle.rules.specs.declared.act.Event.TheVariants.{Message as message}
use Rattle.rules.specs.declared.state.Life.TheVariants.{Idle, Calling, Greeted}
use Rattle.pair.specs.Among.{Among}
use Rattle.pair.specs.Happening.{Happening}
use Rattle.pair.specs.Run.{Origin, fresh_side}
use Rattle.pair.proofs.Among.{with_new}
use Rattle.pair.proofs.Notes.{Note, note_of}
use Rattle.pair.proofs.View.{View, view_of, sending, entering}
use Rattle.pair.proofs.Change.{Change, Sends, heard}
use Rattle.pair.proofs.Change.Change.{falls, gauges, lives, serves, sends, hears, delivers}
use Rattle.pair.proofs.Carried.{MayCome}
use Rattle.pair.proofs.Order.{Order, New}
use Rattle.pair.proofs.Joined.{Joined}

-- of the initiator: it names its connections itself, and has heard and sent data only in one that was answered
abbrev Asker : ℕ → List ℕ → View → Type 0
Asker asked answered l =
    record {
      named : l.connection ≤ asked;
      log : (n : Note) → Among n l.story.log → n.letter.connection ≤ asked;
      heard : 1 ≤ l.count.accepted → Among l.connection answered;
      data_sent : (n : Note) → Among n l.story.log → kind_of n.message.body ≡ 6 → Among n.letter.connection answered;
    }

-- of the called end: it is in a connection, and has sent in one, only that it has accepted; or it is in none, which is 0
abbrev Answerer : List ℕ → View → Type 0
Answerer answered r =
    record {
      in_one : (r.life ≡ Idle → ⊥) → 1 ≤ r.connection → Among r.connection answered;
      log : (n : Note) → Among n r.story.log → Among n.letter.connection answered;
    }

abbrev pub Names : ℕ → List ℕ → View → View → Type 0
Names asked answered l r =
    record { made : (n : ℕ) → Among n answered → n ≤ asked; asker : Asker asked answered l; answerer : Answerer answered r }

pub names_begun : (l r : Origin) → Names 0 [] (view_of (fresh_side l)) (view_of (fresh_side r))
names_begun l r =
    record {
      made = λ n i. absurd i;
      asker = record { named = omega arith; log = λ n i. absurd i; heard = λ some. absurd (omega arith); data_sent = λ n i. absurd i };
      answerer = record { in_one = λ alive. absurd (alive refl); log = λ n i. absurd i };
    }

module _ (asked : ℕ) (answered : List ℕ) (l r : View) (n : Names asked answered l r) where
  -- ---- a new connection is new to both

  pub new_ask : New (asked + 1) l r.story.log
  new_ask =
      record {
        own = λ m i is. (let known = n.asker.log m i in omega arith);
        peer = λ m i kind is. (let known = n.made m.letter.connection (n.answerer.log m i) in omega arith);
      }

  pub new_accept : (name : ℕ) → (Among name answered → ⊥) → New name r l.story.log
  new_accept name free =
      record {
        own = λ m i is. free (subst (λ (k : ℕ). Among k answered) is (n.answerer.log m i));
        peer = λ m i kind is. free (subst (λ (k : ℕ). Among k answered) is (n.asker.data_sent m i kind));
      }

  pub names_ask : Names (asked + 1) answered (entering Calling (asked + 1) l) r
  names_ask =
      record {
        made = λ k i. (let a = n.made k i in omega arith);
        asker = record {
          named = omega arith;
          log = λ m i. (let a = n.asker.log m i in omega arith);
          heard = λ some. absurd (omega arith);
          data_sent = n.asker.data_sent;
        };
        answerer = n.answerer;
      }

  pub names_accept : (name : ℕ) → name ≤ asked → Names asked (name ∷ answered) l (entering Greeted name r)
  names_accept name was =
      record {
        made = with_new name answered (λ (k : ℕ). k ≤ asked) was n.made;
        asker = record {
          named = n.asker.named;
          log = n.asker.log;
          heard = λ some. inr (n.asker.heard some);
          data_sent = λ m i kind. inr (n.asker.data_sent m i kind);
        };
        answerer = record { in_one = λ _ _. inl refl; log = λ m i. inr (n.answerer.log m i) };
      }

  -- an accept that answers no ask
  pub names_stray : Names asked answered l (entering Greeted 0 r)
  names_stray =
      record {
        made = n.made;
        asker = n.asker;
        answerer = record { in_one = λ _ some. absurd (omega arith); log = n.answerer.log };
      }

  module _ (time : ℕ) (c : Happening) where
    -- ---- the initiator changes

    -- what it hears was sent in a connection that was answered
    hear : (h : Header) → MayCome time c l r.story.log → c.event ≡ message
        → Names asked answered (heard time c h l) r
    unfolding note_of
    hear h may comes =
        let m = may comes in
        record {
          made = n.made;
          asker = record {
            named = n.asker.named;
            log = n.asker.log;
            heard = λ _. subst (λ (k : ℕ). Among k answered) m.same_connection (n.answerer.log (note_of c.letter) m.was_sent);
            data_sent = n.asker.data_sent;
          };
          answerer = n.answerer;
        }

    send : (m : Note) → Sends time l m → Order l r.story.log → Names asked answered (sending m l) r
    send m k o =
        record {
          made = n.made;
          asker = record {
            named = n.asker.named;
            log = with_new m l.story.log (λ (j : Note). j.letter.connection ≤ asked)
                (let named = n.asker.named in let is = k.connection in omega arith) n.asker.log;
            heard = n.asker.heard;
            data_sent =
                with_new m l.story.log (λ (j : Note). kind_of j.message.body ≡ 6 → Among j.letter.connection answered)
                (λ kind. subst (λ (i : ℕ). Among i answered) (sym k.connection) (n.asker.heard (o.numbers.risen (k.up kind))))
                n.asker.data_sent;
          };
          answerer = n.answerer;
        }

    pub names_left : (l' : View) → Order l r.story.log → MayCome time c l r.story.log → Change time c l l' → Names asked answered l' r
    names_left l' o may falls = n
    names_left l' o may (gauges pair none) = n
    names_left l' o may (lives life k) = n
    names_left l' o may (serves user k) = n
    names_left l' o may (sends m user k t) = send m k o
    names_left l' o may (hears h body k) = hear h may k.comes
    names_left l' o may (delivers h body k up six young) = hear h may k.comes

    -- ---- the called end changes

    pub names_right : (r' : View) → Joined r → Change time c r r' → Names asked answered l r'
    names_right r' joined falls =
        record { made = n.made; asker = n.asker; answerer = record { in_one = λ alive. absurd (alive refl); log = n.answerer.log } }
    names_right r' joined (gauges pair none) = n
    names_right r' joined (lives life k) =
        record {
          made = n.made;
          asker = n.asker;
          answerer = record { in_one = λ _. n.answerer.in_one k.alive; log = n.answerer.log };
        }
    names_right r' joined (serves user k) = n
    names_right r' joined (sends m user k t) =
        record {
          made = n.made;
          asker = n.asker;
          answerer = record {
            in_one = n.answerer.in_one;
            log = with_new m r.story.log (λ (j : Note). Among j.letter.connection answered)
                (subst (λ (i : ℕ). Among i answered) (sym k.connection)
                (n.answerer.in_one k.alive (joined.in_one k.alive k.greeted)))
                n.answerer.log;
          };
        }
    names_right r' joined (hears h body k) = n
    names_right r' joined (delivers h body k up six young) = n
