-- The order of messages: numbers, places and deliveries. Nothing here is about clocks, or about what the messages carry.
use Prim.Native.Nat.{ℕ, ◌+◌, ◌%◌, ◌^◌, ◌≤◌, ◌<◌}
use native.Mathlib.Omega.{arith}
use mathlib.Core.List.{List, [], ◌∷◌}
use mathlib.Core.Logic.{inl, inr}
use mathlib.Core.Path.{◌≡◌, refl, sym, ap, ◌∙◌}
use lib.ListN.{length}
use Rattle.wire.specs.Message.{kind_of}
use Rattle.wire.specs.declared.message.Header.{Header}
use Rattle.wire.specs.declared.message.Body.{Body}
use Rattle.wire.specs.declared.message.Message.{Message}
use Rattle.rules.proofs.Lives.{apart}
use Rattle.rules.specs.declared.state.Life.{Life}
use Rattle.rules.specs.declared.state.Life.TheVariants.{Idle, Up}
use Rattle.pair.specs.Among.{Among}
use Rattle.pair.specs.World.{Delivery}
use Rattle.pair.specs.Order.{InOrder}
use Rattle.pair.specs.Happening.{Happening}
use Rattle.pair.specs.Run.{Origin, fresh_side}
use Rattle.pair.proofs.Among.{with_new}
use Rattle.pair.proofs.Modular.{past, number_last, number_next}
use Rattle.pair.proofs.Notes.{Note, note_of, Placed}
use Rattle.pair.proofs.View.{View, view_of, living, sending, entering, falling, delivering}
use Rattle.pair.proofs.Change.{Change, Hears, Sends, delivery_of, heard}
use Rattle.pair.proofs.Change.Change.{falls, gauges, lives, serves, sends, hears, delivers}
use Rattle.pair.proofs.Carried.{MayCome}

-- ---- what stays true of a side, and of the log of its peer

-- what was delivered the peer sent, as a data message, in the connection that it was delivered in
pub record Known (log : List Note) (d : Delivery) : Type 0 where
  pub was_sent : Among (note_of d.letter) log
  pub same_connection : d.letter.connection ≡ d.connection
  pub is_data : kind_of (note_of d.letter).message.body ≡ 6

-- the wrapped numbers are those that do not wrap, and an end that is Up has accepted something
abbrev Numbers : View → Type 0
Numbers x =
    record {
      next : (x.life ≡ Idle → ⊥) → x.count.next ≡ x.count.sent % 2 ^ 16;
      last : (x.life ≡ Idle → ⊥) → x.count.last ≡ (x.count.accepted + 65_535) % 2 ^ 16;
      risen : x.life ≡ Up → 1 ≤ x.count.accepted;
    }

-- what was sent: within a connection places rise with indexes
abbrev Sent : View → Type 0
Sent x =
    record {
      number : (n : Note) → Among n x.story.log → n.message.header.number ≡ n.letter.index % 2 ^ 16;
      counted : (n : Note) → Among n x.story.log → n.letter.connection ≡ x.connection → n.letter.index < x.count.sent;
      rising : (n m : Note) → Among n x.story.log → Among m x.story.log → n.letter.connection ≡ m.letter.connection
          → n.letter.index < m.letter.index → n.letter.place < m.letter.place;
      placed : Placed x.story.log;
    }

-- what was delivered: a data message that may still be was sent after all that were
abbrev Delivered : View → List Note → Type 0
Delivered x log =
    record {
      in_order : InOrder x.story.delivered;
      known : (d : Delivery) → Among d x.story.delivered → Known log d;
      ahead : (n : Note) → Among n log → kind_of n.message.body ≡ 6 → n.letter.connection ≡ x.connection
          → x.count.accepted ≤ n.letter.index → (d : Delivery) → Among d x.story.delivered → d.letter.place < n.letter.place;
    }

abbrev pub Order : View → List Note → Type 0
Order x log = record { numbers : Numbers x; sent : Sent x; delivered : Delivered x log }

pub placed_below : (log : List Note) → Placed log → (n : Note) → Among n log → n.letter.place < length log
placed_below [] p n x = elim x [ ]
placed_below (m ∷ log) p n (inl is) = let e = ap (λ (k : Note). k.letter.place) is in let f = p.0 in omega arith
placed_below (m ∷ log) p n (inr i) = let q = placed_below log p.1 n i in omega arith

-- ---- the beginning, and a new connection: neither side has sent in it what could be mistaken

pub order_begun : (o : Origin) → Order (view_of (fresh_side o)) []
order_begun o =
    record {
      numbers = record { next = λ alive. absurd (alive refl); last = λ alive. absurd (alive refl); risen = λ up. absurd (apart Idle Up refl up) };
      sent = record { number = λ n i. absurd i; counted = λ n i. absurd i; rising = λ n m i. absurd i; placed = tt };
      delivered = record { in_order = tt; known = λ d i. absurd i; ahead = λ n i. absurd i };
    }

pub record New (name : ℕ) (x : View) (log : List Note) : Type 0 where
  pub own : (n : Note) → Among n x.story.log → n.letter.connection ≡ name → ⊥
  pub peer : (n : Note) → Among n log → kind_of n.message.body ≡ 6 → n.letter.connection ≡ name → ⊥

pub order_enters : (life : Life) (name : ℕ) (x : View) (log : List Note) → Order x log → (life ≡ Up → ⊥) → New name x log
    → Order (entering life name x) log
order_enters life name x log o low new =
    record {
      numbers = record { next = λ _. refl; last = λ _. refl; risen = λ up. absurd (low up) };
      sent = record {
        number = o.sent.number;
        counted = λ n i same. absurd (new.own n i same);
        rising = o.sent.rising;
        placed = o.sent.placed;
      };
      delivered = record {
        in_order = o.delivered.in_order;
        known = o.delivered.known;
        ahead = λ n i kind same past d was. absurd (new.peer n i kind same);
      };
    }

module _ (time : ℕ) (c : Happening) (x y : View) (o : Order x y.story.log) (p : Order y x.story.log)
    (may : MayCome time c x y.story.log) where
  -- ---- hearing

  -- the letter has the number of its index, and is past all that were accepted
  record Past (h : Header) : Type 0 where
    number : h.number ≡ c.letter.index % 2 ^ 16
    beyond : x.count.accepted ≤ c.letter.index

  is_past : (h : Header) (body : Body) → Hears c x h body → Past h
  unfolding note_of
  is_past h body k =
      let m = may k.comes in
      let number : h.number ≡ c.letter.index % 2 ^ 16 =
      ap (λ (m : Message). m.header.number) (sym k.says) ∙ p.sent.number (note_of c.letter) m.was_sent in
      record {
        number = number;
        beyond = past h.number c.letter.index x.count.last x.count.accepted number (o.numbers.last k.alive) m.not_far_behind
            k.ahead k.near;
      }

  hear : (h : Header) (body : Body) → Hears c x h body → Order (heard time c h x) y.story.log
  hear h body k =
      let past = is_past h body k in
      let beyond = past.beyond in
      record {
        numbers = record {
          next = o.numbers.next;
          last = λ _. past.number ∙ number_last c.letter.index;
          risen = λ _. omega arith;
        };
        sent = o.sent;
        delivered = record {
          in_order = o.delivered.in_order;
          known = o.delivered.known;
          ahead = λ n i kind same past. o.delivered.ahead n i kind same (omega arith);
        };
      }

  -- ---- delivering

  deliver : (h : Header) (body : Body) → Hears c x h body → kind_of body ≡ 6
      → Order (delivering (delivery_of time c x) (heard time c h x)) y.story.log
  unfolding note_of
  deliver h body k six =
      let m = may k.comes in
      let now = hear h body k in
      let is-data = ap (λ (m : Message). kind_of m.body) k.says ∙ six in
      let before = o.delivered in
      record {
        numbers = now.numbers;
        sent = now.sent;
        delivered = record {
          in_order = (before.ahead (note_of c.letter) m.was_sent is-data m.same_connection (is_past h body k).beyond, before.in_order);
          known =
              with_new (delivery_of time c x) x.story.delivered (Known y.story.log)
              (record { was_sent = m.was_sent; same_connection = m.same_connection; is_data = is-data }) before.known;
          ahead =
              λ n i kind same past. with_new (delivery_of time c x) x.story.delivered (λ (e : Delivery). e.letter.place < n.letter.place)
              (p.sent.rising (note_of c.letter) n m.was_sent i (m.same_connection ∙ sym same) (omega arith))
              (now.delivered.ahead n i kind same past);
        };
      }

  -- ---- sending

  module _ (n : Note) (k : Sends time x n) where
    abbrev log : List Note
    log = x.story.log

    in_order_lem : (l m : Note) → Among l (n ∷ log) → Among m (n ∷ log) → l.letter.connection ≡ m.letter.connection
        → l.letter.index < m.letter.index → l.letter.place < m.letter.place
    in_order_lem l m (inl new) (inl new') same less =
        let a = ap (λ (j : Note). j.letter.index) new in let b = ap (λ (j : Note). j.letter.index) new' in absurd (omega arith)
    in_order_lem l m (inl new) (inr old) same less =
        let a = ap (λ (j : Note). j.letter.index) new in
        let b = o.sent.counted m old (sym same ∙ ap (λ (j : Note). j.letter.connection) new ∙ k.connection) in
        let i = k.index in
        absurd (omega arith)
    in_order_lem l m (inr old) (inl new) same less =
        let a = ap (λ (j : Note). j.letter.place) new in
        let b = placed_below log o.sent.placed l old in
        let i = k.place in
        omega arith
    in_order_lem l m (inr old) (inr old') same less = o.sent.rising l m old old' same less

    send : Order (sending n x) y.story.log
    send =
        let next = o.numbers.next k.alive in
        record {
          numbers = record {
            next = λ _. number_next x.count.next x.count.sent next;
            last = o.numbers.last;
            risen = o.numbers.risen;
          };
          sent = record {
            number = with_new n log (λ (l : Note). l.message.header.number ≡ l.letter.index % 2 ^ 16)
                (ap (λ (h : Header). h.number) k.header ∙ next ∙ ap (λ (i : ℕ). i % 2 ^ 16) (sym k.index)) o.sent.number;
            counted = with_new n log (λ (l : Note). l.letter.connection ≡ x.connection → l.letter.index < x.count.sent + 1)
                (λ _. let i = k.index in omega arith) (λ l i same. let before = o.sent.counted l i same in omega arith);
            rising = in_order_lem;
            placed = (k.place, o.sent.placed);
          };
          delivered = o.delivered;
        }

    -- to the peer it may still be delivered
    send_peer : Order y (n ∷ log)
    unfolding note_of
    send_peer =
        let before = p.delivered in
        record {
          numbers = p.numbers;
          sent = p.sent;
          delivered = record {
            in_order = before.in_order;
            known =
                λ d i. (let q = before.known d i in
                record { was_sent = inr q.was_sent; same_connection = q.same_connection; is_data = q.is_data });
            ahead =
                with_new n log
                (λ (l : Note). kind_of l.message.body ≡ 6 → l.letter.connection ≡ y.connection → y.count.accepted ≤ l.letter.index
                → (d : Delivery) → Among d y.story.delivered → d.letter.place < l.letter.place)
                (λ kind same past d i.
                (let b = placed_below log o.sent.placed (note_of d.letter) (before.known d i).was_sent in let e = k.place in omega arith))
                before.ahead;
          };
        }

  -- ---- every change

  pub order_kept : (x' : View) → Change time c x x' → Order x' y.story.log × Order y x'.story.log
  order_kept x' falls =
      let numbers : Numbers (falling x) =
      record { next = λ alive. absurd (alive refl); last = λ alive. absurd (alive refl); risen = λ up. absurd (apart Idle Up refl up) } in
      (record { numbers = numbers; sent = o.sent; delivered = o.delivered }, p)
  order_kept x' (gauges pair none) = (o, p)
  order_kept x' (lives life k) =
      let numbers : Numbers (living life x) =
      record { next = λ _. o.numbers.next k.alive; last = λ _. o.numbers.last k.alive; risen = k.heard } in
      (record { numbers = numbers; sent = o.sent; delivered = o.delivered }, p)
  order_kept x' (serves user k) = (o, p)
  order_kept x' (sends n user k t) = (send n k, send_peer n k)
  order_kept x' (hears h body k) = (hear h body k, p)
  order_kept x' (delivers h body k up six young) = (deliver h body k six, p)
