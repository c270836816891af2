-- What holds at the beginning and is kept by every move holds after every run.
use Prim.Native.Nat.{ℕ, ◌+◌, ◌≤◌}
use native.Mathlib.Omega.{arith}
use mathlib.Core.Bool.{Bool, true, false, cond}
use mathlib.Core.List.{List, [], ◌∷◌}
use mathlib.Core.Logic.{◌⊎◌, inl, inr}
use mathlib.Core.Path.{◌≡◌, refl, sym, subst, ◌∙◌}
use borrow.Author.Tests.{ne_eqb}
use Rattle.rules.proofs.Lives.{apart, apart_roles}
use Rattle.rules.specs.declared.state.Role.TheVariants.{Initiator, Called}
use Rattle.rules.specs.declared.state.Life.{Life}
use Rattle.rules.specs.declared.state.Life.TheVariants.{Calling, Greeted, Up}
use Rattle.pair.specs.World.{World}
use Rattle.pair.specs.Happening.{Happening}
use Rattle.pair.specs.Run.{Origin, fresh_side, Beginning, SoundBeginning, begun, Move, Unanswered, May, with_answer, next, after, Run}
use Rattle.pair.specs.Run.Move.{wait, at_left, at_right}
use Rattle.pair.proofs.Notes.{Note}
use Rattle.pair.proofs.View.{Fixed, View, view_of, entering}
use Rattle.pair.proofs.Change.{Change, Step, has_offsets, fixed_kept, along}
use Rattle.pair.proofs.Change.Step.{asks, accepts, goes}
use Rattle.pair.proofs.Carried.{MayCome, may_come, carried_kept}
use Rattle.pair.proofs.Readable.{Readable, readable_begun, readable_enters, readable_kept}
use Rattle.pair.proofs.Walk.{steps}
use Rattle.pair.proofs.Sides.{Lasts, left_lasts, right_lasts}
use Rattle.pair.proofs.Order.{Order, New, order_begun, order_enters, order_kept}
use Rattle.pair.proofs.Clocks.{Clocks, clocks_begun, clocks_enters, clocks_later, clocks_kept}
use Rattle.pair.proofs.Users.{Users, users_begun, users_enters, users_kept}
use Rattle.pair.proofs.Joined.{Joined, joined_begun, joined_enters, joined_kept}
use Rattle.pair.proofs.Names.{Names, names_begun, new_ask, new_accept, names_ask, names_accept, names_stray, names_left, names_right}

-- ---- all that stays true

-- of a side, whose peer has a bias and a log
abbrev pub Whole : ℕ → ℕ → List Note → View → Type 0
Whole time peer log x = record { readable : Readable x; order : Order x log; clocks : Clocks time peer x; users : Users x; joined : Joined x }

-- of both
abbrev Held : ℕ → ℕ → List ℕ → View → View → Type 0
Held time asked answered x y =
    record {
      left : Whole time y.fixed.bias y.story.log x;
      right : Whole time x.fixed.bias x.story.log y;
      names : Names asked answered x y;
    }

abbrev pub Holds : World → Type 0
Holds w = Held w.time w.asks w.answered (view_of w.left) (view_of w.right)

-- ---- the beginning

begun_whole : (time peer : ℕ) (o : Origin) → Whole time peer [] (view_of (fresh_side o))
begun_whole time peer o =
    record {
      readable = readable_begun o;
      order = order_begun o;
      clocks = clocks_begun time peer o;
      users = users_begun o;
      joined = joined_begun o;
    }

begun_holds : (b : Beginning) → Holds (begun b)
begun_holds b =
    record {
      left = begun_whole b.time b.right.bias b.left;
      right = begun_whole b.time b.left.bias b.right;
      names = names_begun b.left b.right;
    }

-- ---- one side changes, and the other looks on

enter : (time peer : ℕ) (log : List Note) (life : Life) (name : ℕ) (x : View) → Whole time peer log x → (life ≡ Up → ⊥)
    → has_offsets life ≡ false → (life ≡ Greeted) ⊎ (1 ≤ name) → New name x log → Whole time peer log (entering life name x)
enter time peer log life name x o low blank some new =
    record {
      readable = readable_enters life name x o.readable;
      order = order_enters life name x log o.order low new;
      clocks = clocks_enters time peer life name x o.clocks blank;
      users = users_enters life name x o.users;
      joined = joined_enters life name x o.joined some;
    }

module _ (time : ℕ) (c : Happening) (x y : View) (o : Whole time y.fixed.bias y.story.log x)
    (p : Whole time x.fixed.bias x.story.log y) (may : MayCome time c x y.story.log) (x' : View) (k : Change time c x x') where
  own_kept : Whole time y.fixed.bias y.story.log x'
  own_kept =
      record {
        readable = readable_kept time c x y.story.log o.readable p.readable.log may x' k;
        order = (order_kept time c x y o.order p.order may x' k).0;
        clocks = clocks_kept time y.fixed.bias c x y.story.log o.clocks p.clocks.stamped may x' k;
        users = users_kept time c x o.users x' k;
        joined = joined_kept time c x y.story.log o.joined p.joined.log may x' k;
      }

  peer_kept : Whole time x'.fixed.bias x'.story.log y
  peer_kept =
      record {
        readable = p.readable;
        order = (order_kept time c x y o.order p.order may x' k).1;
        clocks = subst (λ (f : Fixed). Clocks time f.bias y) (sym (fixed_kept k)) p.clocks;
        users = p.users;
        joined = p.joined;
      }

-- ---- every event

module _ (time asked : ℕ) (answered : List ℕ) (c : Happening) (x y : View) (h : Held time asked answered x y) where
  -- with the asks and the answers that an event makes
  abbrev After : Bool → Bool → View → View → Type 0
  After a b x' y' = Held time (cond a (asked + 1) asked) (cond b (with_answer c.ask answered) answered) x' y'

  at_left_lem : (x' : View) (a b : Bool) → Step time asked c x x' a b → MayCome time c x y.story.log → x.fixed.role ≡ Initiator
      → After a b x' y
  at_left_lem x' a b (asks role) may is =
      record {
        left =
            enter time y.fixed.bias y.story.log Calling (asked + 1) x h.left (apart Calling Up refl) refl
            (inr (omega arith)) (new_ask asked answered x y h.names);
        right = h.right;
        names = names_ask asked answered x y h.names;
      }
  at_left_lem x' a b (accepts role) may is = absurd (apart_roles (sym role ∙ is))
  at_left_lem x' a b (goes ks) may is =
      (along time c (λ z. Held time asked answered z y × MayCome time c z y.story.log)
      (λ z z' k held. (
        record {
          left = own_kept time c z y held.0.left held.0.right held.1 z' k;
          right = peer_kept time c z y held.0.left held.0.right held.1 z' k;
          names = names_left asked answered z y held.0.names time c z' held.0.left.order held.1 k;
        },
        carried_kept time c z y.story.log held.1 z' k,
      ))
      ks (h, may)).0

  -- the called end enters a connection that is new to both, or none
  greet : (name : ℕ) (log : List ℕ) → New name y x.story.log → Names asked log x (entering Greeted name y)
      → Held time asked log x (entering Greeted name y)
  greet name log new names =
      record {
        left = h.left;
        right = enter time x.fixed.bias x.story.log Greeted name y h.right (apart Greeted Up refl) refl (inl refl) new;
        names = names;
      }

  -- nothing was sent in connection 0
  new_none : New 0 y x.story.log
  new_none =
      record {
        own = λ m i is. (let some = h.right.joined.log m i in omega arith);
        peer = λ m i kind is. (let some = h.left.joined.log m i in omega arith);
      }

  accept : (ask : ℕ) → (ask ≡ 0) ⊎ Unanswered asked answered ask → Held time asked (with_answer ask answered) x (entering Greeted ask y)
  accept ask (inl none) = rw none (greet 0 answered new_none (names_stray asked answered x y h.names))
  accept ask (inr free) =
      let some = free.some in
      rw (ne_eqb ask 0 (λ none. omega arith))
      (greet ask (ask ∷ answered) (new_accept asked answered x y h.names ask free.not_yet)
      (names_accept asked answered x y h.names ask free.made))

  at_right_lem : (y' : View) (a b : Bool) → Step time asked c y y' a b → MayCome time c y x.story.log → y.fixed.role ≡ Called
      → (b ≡ true → (c.ask ≡ 0) ⊎ Unanswered asked answered c.ask) → After a b x y'
  at_right_lem y' a b (asks role) may is free = absurd (apart_roles (sym is ∙ role))
  at_right_lem y' a b (accepts role) may is free = accept c.ask (free refl)
  at_right_lem y' a b (goes ks) may is free =
      (along time c (λ z. Held time asked answered x z × MayCome time c z x.story.log)
      (λ z z' k held. (
        record {
          left = peer_kept time c z x held.0.right held.0.left held.1 z' k;
          right = own_kept time c z x held.0.right held.0.left held.1 z' k;
          names = names_right asked answered x z held.0.names time c z' held.0.right.joined k;
        },
        carried_kept time c z x.story.log held.1 z' k,
      ))
      ks (h, may)).0

-- ---- every move

later : (time n : ℕ) (x y : View) → Whole time y.fixed.bias y.story.log x → Whole (time + n) y.fixed.bias y.story.log x
later time n x y o =
    record {
      readable = o.readable;
      order = o.order;
      clocks = clocks_later time n y.fixed.bias x o.clocks;
      users = o.users;
      joined = o.joined;
    }

move_holds : (w : World) (m : Move) → Lasts Initiator w.left → Lasts Called w.right → Holds w → May w m → Holds (next w m)
move_holds w (wait n) l r h may =
    record {
      left = later w.time n (view_of w.left) (view_of w.right) h.left;
      right = later w.time n (view_of w.right) (view_of w.left) h.right;
      names = h.names;
    }
move_holds w (at_left c) l r h may =
    let come = may_come w.time w.left w.right c may.hands_over in
    at_left_lem w.time w.asks w.answered c (view_of w.left) (view_of w.right) h _ _ _
    (steps w.time w.asks w.left c l.whole h.left.readable.wide
    (λ comes. (h.right.readable.log _ (come comes).was_sent).fits)) come l.in_role
move_holds w (at_right c) l r h may =
    let come = may_come w.time w.right w.left c may.hands_over in
    at_right_lem w.time w.asks w.answered c (view_of w.left) (view_of w.right) h _ _ _
    (steps w.time w.asks w.right c r.whole h.right.readable.wide
    (λ comes. (h.left.readable.log _ (come comes).was_sent).fits)) come r.in_role may.answers_ask

-- ---- every run

pub holds : (b : Beginning) → SoundBeginning b → (ms : List Move) → Run b ms → Holds (after b ms)
unfolding after
holds b sound [] run = begun_holds b
holds b sound (m ∷ ms) run =
    move_holds (after b ms) m (left_lasts b ms Initiator sound.left) (right_lasts b ms Called sound.right)
    (holds b sound ms run.0) run.1
