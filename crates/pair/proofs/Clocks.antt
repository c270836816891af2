-- The two clocks: stamps, offsets and ages.
use Prim.Native.Nat.{ℕ, ◌+◌, ◌-◌, ◌%◌, ◌^◌, ◌≤◌, ◌<◌}
use native.Mathlib.Omega.{arith}
use mathlib.Core.Bool.{true, false, false≢true}
use mathlib.Core.List.{List}
use mathlib.Core.Logic.{◌⊎◌, inl, inr}
use mathlib.Core.Path.{◌≡◌, refl, sym, ap, subst, ◌∙◌}
use Rattle.judge.proofs.Difference.{diff_is}
use Rattle.judge.specs.Clock.{age_of, spread_of}
use Rattle.judge.specs.Difference.{diff}
use Rattle.judge.specs.declared.clock.Offsets.{Offsets}
use Rattle.wire.specs.declared.message.Header.{Header}
use Rattle.wire.specs.declared.message.Body.{Body}
use Rattle.wire.specs.declared.message.Message.{Message}
use Rattle.rules.specs.declared.act.Event.TheVariants.{Message as message}
use Rattle.rules.specs.declared.state.Echo.{Echo}
use Rattle.rules.specs.declared.state.Life.{Life}
use Rattle.rules.specs.declared.state.Life.TheVariants.{Idle, Up}
use Rattle.pair.specs.Among.{Among}
use Rattle.pair.specs.World.{Letter, Delivery}
use Rattle.pair.specs.Happening.{Happening}
use Rattle.pair.specs.Run.{Origin, fresh_side}
use Rattle.pair.proofs.Among.{with_new}
use Rattle.pair.proofs.Modular.{minimum_is, age_is}
use Rattle.pair.proofs.Notes.{Note, note_of}
use Rattle.pair.proofs.View.{View, view_of, clock_at, living, sending, entering, delivering}
use Rattle.pair.proofs.Change.{Change, Hears, Measured, Lives, Sends, delivery_of, heard, has_offsets, is_answer}
use Rattle.pair.proofs.Change.Change.{falls, gauges, lives, serves, sends, hears, delivers}
use Rattle.pair.proofs.Carried.{MayCome}

-- ---- what stays true of a side with a bias, whose peer has another

-- the stamps to echo: what the peer read when it sent, and what the own clock read when that came, not long after
pub record Echoed (time own peer : ℕ) (echo : Echo) : Type 0 where
  pub then : ℕ
  pub at : ℕ
  pub before : then ≤ at
  pub soon : at < then + 2 ^ 31
  pub past : at ≤ time
  pub theirs : echo.peer.0 ≡ (then + peer) % 2 ^ 32
  pub ours : echo.own.0 ≡ (at + own) % 2 ^ 32

-- the minimum is too small by `late`, and that is within the spread
pub record Gauged (own peer width : ℕ) (pair : Offsets) : Type 0 where
  pub late : ℕ
  pub little : late < 2 ^ 31
  pub off : (pair.minimum.0 + peer + late) % 2 ^ 32 ≡ own % 2 ^ 32
  pub within : late ≤ spread_of pair
  pub narrow : spread_of pair ≤ width

-- what was sent
pub record Stamped (time own peer : ℕ) (n : Note) : Type 0 where
  pub past : n.letter.time ≤ time
  pub stamp : n.message.header.stamps.sent.0 ≡ (n.letter.time + own) % 2 ^ 32
  pub answers : is_answer n.message.body ≡ true
      → Echoed n.letter.time own peer (record { peer = n.message.header.stamps.echo; own = n.message.header.stamps.receipt })

abbrev pub AllStamped : ℕ → ℕ → ℕ → List Note → Type 0
AllStamped time own peer log = (n : Note) → Among n log → Stamped time own peer n

-- what was delivered
pub record Young (limit : ℕ) (d : Delivery) : Type 0 where
  pub sent_before : d.letter.time ≤ d.time
  pub not_too_old : d.time ≤ d.letter.time + limit

abbrev pub Clocks : ℕ → ℕ → View → Type 0
Clocks time peer x =
    record {
      echoed : (x.life ≡ Idle → ⊥) → 1 ≤ x.count.accepted → Echoed time x.fixed.bias peer x.timing.echo;
      gauged : has_offsets x.life ≡ true → Gauged x.fixed.bias peer x.fixed.width x.timing.offsets;
      stamped : AllStamped time x.fixed.bias peer x.story.log;
      young : (d : Delivery) → Among d x.story.delivered → Young x.fixed.limit d;
    }

-- ---- the beginning, a new connection, and time that goes on

pub clocks_begun : (time peer : ℕ) (o : Origin) → Clocks time peer (view_of (fresh_side o))
clocks_begun time peer o =
    record {
      echoed = λ alive. absurd (alive refl);
      gauged = λ t. absurd (false≢true t);
      stamped = λ n i. absurd i;
      young = λ d i. absurd i;
    }

pub clocks_enters : (time peer : ℕ) (life : Life) (name : ℕ) (x : View) → Clocks time peer x → has_offsets life ≡ false
    → Clocks time peer (entering life name x)
clocks_enters time peer life name x o blank =
    record {
      echoed = λ alive some. absurd (omega arith);
      gauged = λ t. absurd (false≢true (sym blank ∙ t));
      stamped = o.stamped;
      young = o.young;
    }

echoed_later : (time n own peer : ℕ) (echo : Echo) → Echoed time own peer echo → Echoed (time + n) own peer echo
echoed_later time n own peer echo e =
    let past = e.past in
    record { then = e.then; at = e.at; before = e.before; soon = e.soon; past = omega arith; theirs = e.theirs; ours = e.ours }

pub clocks_later : (time n peer : ℕ) (x : View) → Clocks time peer x → Clocks (time + n) peer x
clocks_later time n peer x o =
    record {
      echoed = λ alive some. echoed_later time n x.fixed.bias peer x.timing.echo (o.echoed alive some);
      gauged = o.gauged;
      stamped = λ m i. (let s = o.stamped m i in let past = s.past in record { past = omega arith; stamp = s.stamp; answers = s.answers });
      young = o.young;
    }

-- ---- ages

-- by how much a computed age is above the true one
pub record Aged (time peer : ℕ) (x : View) (l : Letter) (h : Header) : Type 0 where
  pub late : ℕ
  pub age : age_of (clock_at time x) h.stamps.sent x.timing.offsets ≡ (time - l.time) + late
  pub short : diff 32 x.fixed.bias (x.timing.offsets.minimum.0 + peer) ≡ late
  pub within : late ≤ spread_of x.timing.offsets
  pub narrow : spread_of x.timing.offsets ≤ x.fixed.width

pub aged : (time peer : ℕ) (x : View) (l : Letter) (h : Header) → Gauged x.fixed.bias peer x.fixed.width x.timing.offsets
    → h.stamps.sent.0 ≡ (l.time + peer) % 2 ^ 32 → l.time ≤ time → time < l.time + 2 ^ 31 → Aged time peer x l h
aged time peer x l h g stamp before soon =
    record {
      late = g.late;
      age =
          age_is (clock_at time x).0 h.stamps.sent.0 x.timing.offsets.minimum.0 l.time x.fixed.bias peer g.late time refl
          stamp g.off before soon g.little;
      short = diff_is 32 g.late x.fixed.bias (x.timing.offsets.minimum.0 + peer) fewer g.off;
      within = g.within;
      narrow = g.narrow;
    }
  where
    fewer : g.late < 2 ^ 32
    fewer = let few = g.little in omega arith

-- ---- every change

module _ (time peer : ℕ) (c : Happening) (x : View) (log : List Note) (o : Clocks time peer x)
    (said : AllStamped time peer x.fixed.bias log) (may : MayCome time c x log) where
  -- what the letter says of the peer's clock
  record Read (h : Header) (body : Body) : Type 0 where
    past : c.letter.time ≤ time
    stamp : h.stamps.sent.0 ≡ (c.letter.time + peer) % 2 ^ 32
    answers : is_answer body ≡ true
        → Echoed c.letter.time peer x.fixed.bias (record { peer = h.stamps.echo; own = h.stamps.receipt })
    soon : time < c.letter.time + 2 ^ 31

  read : (h : Header) (body : Body) → c.event ≡ message → (note_of c.letter).message ≡ record { header = h; body = body } → Read h body
  unfolding note_of
  read h body comes is =
      let m = may comes in
      let s = said (note_of c.letter) m.was_sent in
      subst (λ (k : Message). Read k.header k.body) is
      (record { past = s.past; stamp = s.stamp; answers = s.answers; soon = m.soon })

  -- ---- hearing

  hear : (h : Header) (body : Body) → Hears c x h body → Clocks time peer (heard time c h x)
  hear h body k =
      let r = read h body k.comes k.says in
      record {
        echoed =
            λ _ _. record {
              then = c.letter.time;
              at = time;
              before = r.past;
              soon = r.soon;
              past = omega arith;
              theirs = r.stamp;
              ours = refl;
            };
        gauged = o.gauged;
        stamped = o.stamped;
        young = o.young;
      }

  deliver : (h : Header) (body : Body) → Hears c x h body → x.life ≡ Up
      → age_of (clock_at time x) h.stamps.sent x.timing.offsets ≤ x.fixed.limit
      → Clocks time peer (delivering (delivery_of time c x) (heard time c h x))
  deliver h body k up fresh =
      let r = read h body k.comes k.says in
      let before = r.past in
      let a = aged time peer x c.letter h (o.gauged (ap has_offsets up)) r.stamp r.past r.soon in
      let age = a.age in
      let now = hear h body k in
      record {
        echoed = now.echoed;
        gauged = now.gauged;
        stamped = now.stamped;
        young = with_new (delivery_of time c x) x.story.delivered (Young x.fixed.limit)
            (record { sent_before = before; not_too_old = omega arith }) o.young;
      }

  -- ---- measuring

  -- the spread is the age of the answer itself
  gauge : Measured time c x → Gauged x.fixed.bias peer x.fixed.width x.timing.offsets
  gauge k =
      let h = k.header.stamps in
      let r = read k.header k.body k.comes k.says in
      let e = r.answers k.answer in
      let soon = e.soon in
      let late = e.at - e.then in
      let off = minimum_is h.echo.0 h.receipt.0 e.then e.at x.fixed.bias peer e.theirs e.ours e.before in
      let spread : spread_of x.timing.offsets ≡ (time - c.letter.time) + (e.at - e.then) =
      ap spread_of k.pair ∙ age_is (clock_at time x).0 h.sent.0 (diff 32 h.echo.0 h.receipt.0) c.letter.time x.fixed.bias peer
      late time refl r.stamp off r.past r.soon (omega arith) in
      record {
        late = late;
        little = omega arith;
        off = subst (λ (pair : Offsets). (pair.minimum.0 + peer + (e.at - e.then)) % 2 ^ 32 ≡ x.fixed.bias % 2 ^ 32) (sym k.pair) off;
        within = omega arith;
        narrow = k.narrow;
      }

  live : (life : Life) → Lives time c x life → Clocks time peer (living life x)
  live life k =
      record { echoed = λ _. o.echoed k.alive; gauged = λ t. go (k.measured t); stamped = o.stamped; young = o.young }
    where
      go : (has_offsets x.life ≡ true) ⊎ Measured time c x → Gauged x.fixed.bias peer x.fixed.width x.timing.offsets
      go (inl had) = o.gauged had
      go (inr new) = gauge new

  -- ---- sending

  send : (n : Note) → Sends time x n → Clocks time peer (sending n x)
  send n k =
      record {
        echoed = o.echoed;
        gauged = o.gauged;
        stamped =
            with_new n x.story.log (Stamped time x.fixed.bias peer)
            (record {
              past = let when = k.when in omega arith;
              stamp = ap (λ (h : Header). h.stamps.sent.0) k.header ∙ ap (λ (t : ℕ). (t + x.fixed.bias) % 2 ^ 32) (sym k.when);
              answers = λ t. rw (k.header, k.when) (o.echoed k.alive (k.answer t));
            })
            o.stamped;
        young = o.young;
      }

  pub clocks_kept : (x' : View) → Change time c x x' → Clocks time peer x'
  clocks_kept x' falls =
      record { echoed = λ alive. absurd (alive refl); gauged = λ t. absurd (false≢true t); stamped = o.stamped; young = o.young }
  clocks_kept x' (gauges pair none) =
      record { echoed = o.echoed; gauged = λ t. absurd (false≢true (sym none ∙ t)); stamped = o.stamped; young = o.young }
  clocks_kept x' (lives life k) = live life k
  clocks_kept x' (serves user k) = o
  clocks_kept x' (sends n user k t) = send n k
  clocks_kept x' (hears h body k) = hear h body k
  clocks_kept x' (delivers h body k up six fresh) = deliver h body k up fresh
