-- The user's data, from the handing in to the sending: one event, and then every run.
use Prim.Native.Nat.{ℕ}
use mathlib.Core.Bool.{Bool, true, false, cond, false≢true}
use mathlib.Core.List.{List, [], ◌∷◌, ◌++◌, append-nil, append_assoc}
use mathlib.Core.Logic.{◌⊎◌, inl, inr, ⊎_elim}
use mathlib.Core.Path.{◌≡◌, refl, sym, ap, ap₂, ◌∙◌}
use lib.ListN.{length}
use lib.Seq.{take-append_seam}
use Rattle.queue.proofs.Claims.{empty_has_none}
use Rattle.queue.specs.Ring.{size, empty_ring, entries, waiting_in, oldest_in, without_oldest, data_from}
use Rattle.queue.specs.declared.Ring.{Ring}
use Rattle.wire.proofs.Tests.{by_test}
use Rattle.wire.specs.Message.{encode, header_bytes}
use Rattle.wire.specs.Writing.{over}
use Rattle.wire.specs.declared.message.Body.{Body}
use Rattle.wire.specs.declared.message.Body.TheVariants.{OffsetStart, OffsetAnsw1, OffsetAnsw2, OffsetEst, OffsetEnd, LifeSign, TrainData}
use Rattle.wire.specs.declared.message.Header.{Header}
use Rattle.wire.specs.declared.message.Message.{Message as Letter}
use Rattle.rules.specs.Answers.{number_of}
use Rattle.rules.specs.Ends.{was_up}
use Rattle.rules.specs.Perform.{performed}
use Rattle.rules.specs.Place.{out_after, queue_after, front_after}
use Rattle.rules.specs.Talking.{delivering, has_gap, delivered_answer}
use Rattle.rules.specs.declared.act.Event.{Event}
use Rattle.rules.specs.declared.act.Event.TheVariants.{Tick, Confirm, Data, Message}
use Rattle.rules.specs.declared.act.Act.{Act}
use Rattle.rules.specs.declared.act.Act.TheVariants.{Move, Start, Hear, Say}
use Rattle.rules.specs.declared.act.ConnectionMove.{ConnectionMove}
use Rattle.rules.specs.declared.act.ConnectionMove.TheVariants.{Ask, Accept, Lose, Fall}
use Rattle.rules.specs.declared.act.Exchange.{Exchange}
use Rattle.rules.specs.declared.act.Exchange.TheVariants.{Begin, Greet, Measure, Estimate, Finish, Rise}
use Rattle.rules.specs.declared.act.Measurement.{Measurement}
use Rattle.rules.specs.declared.act.Swap.{Swap}
use Rattle.rules.specs.declared.act.Verdict.{Verdict}
use Rattle.rules.specs.declared.act.Verdict.TheVariants.{Deliver, Report}
use Rattle.rules.specs.declared.act.Speech.{Speech}
use Rattle.rules.specs.declared.act.Speech.TheVariants.{Quiet, Beat, Speak, Drain, Hold}
use Rattle.rules.specs.declared.effect.Front.TheVariants.{Message as message}
use Rattle.rules.specs.declared.state.Life.TheVariants.{Idle, Up}
use Rattle.rules.specs.declared.state.End.{End}
use Rattle.rules.proofs.Answered.{exchange_awake, exchange_low, failure_comes, fall_awake}
use Rattle.rules.proofs.Grounds.{MoveGrounds, ExchangeGrounds, VerdictGrounds, SpeechGrounds}
use Rattle.rules.proofs.Lives.{was_up_lem, up_awake}
use Rattle.rules.proofs.Queued.{holds_last, drains_first}
use Rattle.run.specs.Run.{Making, Sound, Call, Entry, Kept, came_to, after, history, entry_of, kept_in}
use Rattle.run.specs.Events.{is_handed_in, opens}
use Rattle.run.proofs.Brought.{refused_brings, stay_refused, fall_refused, note_brings}
use Rattle.run.proofs.Calls.{entry_by, by_call}
use Rattle.run.proofs.Lasting.{run_lasts}
use Rattle.history.specs.Sending.{handed_by, handed_in, carried_in, carried_at, sent_in, waiting, lost_in, in_connection, Sending, NothingLost, WaitsWhileUp}

abbrev Lists : Type 0
Lists = List (List ℕ)

-- ---- the train data at the front of the output

abbrev train_of : Body → List ℕ → Lists
train_of OffsetStart d = []
train_of OffsetAnsw1 d = []
train_of OffsetAnsw2 d = []
train_of (OffsetEst minimum maximum) d = []
train_of OffsetEnd d = []
train_of LifeSign d = []
train_of TrainData d = d ∷ []

train_written : (h : Header) (body : Body) (d : List ℕ) → carried_in (encode (record { header = h; body = body }) d) ≡ train_of body d
unfolding encode header_bytes
train_written h OffsetStart d = refl
train_written h OffsetAnsw1 d = refl
train_written h OffsetAnsw2 d = refl
train_written h (OffsetEst minimum maximum) d = refl
train_written h OffsetEnd d = refl
train_written h LifeSign d = refl
train_written h TrainData d = refl

train_leaves : (m : Letter) (d out : List ℕ) → carried_at (message (length (encode m d))) (over (encode m d) out) ≡ train_of m.body d
train_leaves m d out = ap carried_in (take-append_seam (encode m d) _) ∙ train_written m.header m.body d

-- ---- one event

-- nothing waits, or the end is Up and a kind 6 has gone in or after the last tick
abbrev Behind : End → Type 0
Behind e = (waiting_in e.ring ≡ 0) ⊎ ((e.life ≡ Up) × (e.line.busy ≡ true))

none_wait : (q : List ℕ) (r : Ring) → waiting_in r ≡ 0 → entries q r ≡ []
none_wait q r is = ap (data_from q r.head) is

abbrev Alive : End → Type 0
Alive e = e.life ≡ Idle → ⊥

-- what waits goes in one of three ways
data Flows (x : Entry) : Type 0 where
  anew : opens x.result ≡ true → waiting (kept_in x.result) ≡ [] → Flows x
  still : opens x.result ≡ false → lost_in x ≡ [] → handed_in x ≡ [] → sent_in x ≡ [] → waiting (kept_in x.result) ≡ waiting x.before
      → (Alive x.result.outcome.end → Alive x.before.end) → Flows x
  turns : opens x.result ≡ false → waiting x.before ++ handed_in x ≡ (sent_in x ++ lost_in x) ++ waiting (kept_in x.result)
      → Alive x.before.end → (Alive x.result.outcome.end → lost_in x ≡ []) → Flows x

module _ (k : Kept) (c : Call) (whole : length k.queue ≡ size) (behind : Behind k.end) where
  abbrev e : End
  e = k.end

  abbrev wait : Lists
  wait = waiting k

  abbrev Flow : Act → Type 0
  Flow act = Flows (entry_by k c act) × Behind (entry_by k c act).result.outcome.end

  nothing_in : (n : ℕ) → is_handed_in c.event n ≡ false → handed_by c.event n c.given ≡ []
  nothing_in n is = ap (λ (t : Bool). cond t (c.given ∷ []) []) is

  by_event : (what : Event) (n : ℕ) → c.event ≡ what → handed_by c.event n c.given ≡ handed_by what n c.given
  by_event what n is = ap (λ (v : Event). handed_by v n c.given) is

  -- ---- connections

  -- what is lost by going down is all that waits
  loses : cond (was_up e) wait [] ≡ wait
  loses =
      ⊎_elim (λ z. by_test (λ (l : Lists). l ≡ wait) (was_up e) (λ _. refl) (λ _. sym (none_wait k.queue e.ring z)))
      (λ both. ap (λ (t : Bool). cond t wait []) (was_up_lem e.life both.0)) behind

  falls : (n : ℕ) → is_handed_in c.event n ≡ false
      → wait ++ handed_by c.event n c.given ≡ cond (was_up e) wait [] ++ entries k.queue empty_ring
  falls n none' =
      ap (λ (x : Lists). wait ++ x) (nothing_in n none') ∙ sym (ap₂ (λ (x y : Lists). x ++ y) loses (empty_has_none k.queue))

  move_flows : (m : ConnectionMove) → MoveGrounds e c.event c.at c.given m → Flow (Move m)
  unfolding performed
  move_flows Ask g = (anew refl (empty_has_none k.queue), inl refl)
  move_flows Accept g = (anew refl (empty_has_none k.queue), inl refl)
  move_flows Lose g =
      (turns refl (falls 0 (ap (λ (v : Event). is_handed_in v 0) g.0)) g.1 (λ living. absurd (living refl)), inl refl)
  move_flows (Fall a error) g =
      let refused = fall_refused e c.event c.at c.given a error g in (
        turns refl (falls (number_of a) (refused_brings c.event (number_of a) refused).1) (fall_awake e c.event c.at c.given a error g)
            (λ living. absurd (living refl)),
        inl refl,
      )

  -- ---- messages of the start

  -- no data are handed in, none are carried, and none wait
  begins : {A B : Type 0} (x : Exchange) → ExchangeGrounds e c.event c.at c.given x → (Alive e → A) → A × ((waiting_in e.ring ≡ 0) ⊎ B)
  begins x g so = (
    so (exchange_awake e c.event c.at c.given x g),
    inl (⊎_elim (λ z. z) (λ both. absurd (exchange_low e c.event c.at c.given x g both.0)) behind),
  )

  start_flows : (x : Exchange) → ExchangeGrounds e c.event c.at c.given x → Flow (Start x)
  unfolding performed
  start_flows (Begin goes) g =
      begins (Begin goes) g (λ alive. still refl refl (by_event Confirm 0 g.0.comes)
      (train_leaves _ [] _ ∙ ap (λ (y : Body). train_of y []) g.2) refl (λ _. alive))
  start_flows (Greet s) g =
      begins (Greet s) g (λ alive. still refl refl (by_event Message 0 g.2.hearing.comes)
      (train_leaves _ [] _ ∙ ap (λ (y : Swap). train_of y.goes []) g.1) refl (λ _. alive))
  start_flows (Measure m) g =
      begins (Measure m) g (λ alive. still refl refl (by_event Message 0 g.2.hearing.comes)
      (train_leaves _ [] _ ∙ ap (λ (y : Measurement). train_of y.swap.goes []) g.1) refl (λ _. alive))
  start_flows (Estimate m) g =
      begins (Estimate m) g (λ alive. still refl refl (by_event Message 0 g.2.hearing.comes)
      (train_leaves _ [] _ ∙ ap (λ (y : Measurement). train_of y.swap.goes []) g.1) refl (λ _. alive))
  start_flows (Finish s) g =
      begins (Finish s) g (λ alive. still refl refl (by_event Message 0 g.4.hearing.comes)
      (train_leaves _ [] _ ∙ ap (λ (y : Swap). train_of y.goes []) g.3) refl (λ _. alive))
  start_flows (Rise h) g =
      begins (Rise h) g (λ alive. still refl refl (by_event Message 0 g.hearing.comes) refl refl (λ _. alive))

  -- ---- while Up

  -- a delivery sends nothing and leaves the queue
  hands_out : (train : Bool) → let p = delivering train in
      (carried_at (front_after p c.given k.queue) (out_after p c.given k.queue c.out) ≡ [])
      × (entries (queue_after p c.given k.queue) e.ring ≡ wait)
  hands_out true = (refl, refl)
  hands_out false = (refl, refl)

  hear_flows : (v : Verdict) → VerdictGrounds e c.event c.at c.given v → Flow (Hear v)
  unfolding performed
  hear_flows (Deliver d) g =
      let so = hands_out d.train in
      let none = by_event Message (number_of (delivered_answer (has_gap d))) g.0.comes in
      (still refl refl none so.0 so.1 (λ alive. alive), behind)
  hear_flows (Report a failures) g =
      let none = by_event Message (number_of a) (failure_comes e c.event c.at c.given a g.0).0 in
      (still refl refl none refl refl (λ alive. alive), behind)

  -- data go at once only when none wait
  ahead : e.line.busy ≡ false → wait ≡ []
  ahead quiet = ⊎_elim (λ z. none_wait k.queue e.ring z) (λ both. absurd (false≢true (sym quiet ∙ both.1))) behind

  say_flows : (s : Speech) → SpeechGrounds e c.event c.at c.given s → Flow (Say s)
  unfolding performed
  say_flows Quiet g = (still refl refl (by_event Tick 0 g.0.comes) refl refl (λ alive. alive), inl g.1)
  say_flows Beat g =
      (still refl refl (by_event Tick 0 g.0.comes) (train_leaves _ [] _) refl (λ alive. alive), inr (g.0.living, refl))
  say_flows Speak g = (
    turns refl
        (ap₂ (λ (x y : Lists). x ++ y) (ahead g.2) (by_event Data 0 g.0.comes)
        ∙ sym (ap₂ (λ (x y : Lists). (x ++ []) ++ y) (train_leaves _ c.given _) (ahead g.2)))
        (up_awake e.life g.0.living) (λ _. refl),
    inr (g.0.living, refl),
  )
  say_flows Drain g = (
    turns refl
        (ap (λ (x : Lists). wait ++ x) (by_event Tick 0 g.0.comes)
        ∙ append-nil wait
        ∙ drains_first e c.event c.at c.given k.queue g
        ∙ sym (ap (λ (x : Lists). (x ++ []) ++ entries k.queue (without_oldest e.ring)) (train_leaves _ (oldest_in k.queue e.ring) _)))
        (up_awake e.life g.0.living) (λ _. refl),
    inr (g.0.living, refl),
  )
  say_flows Hold g = (
    turns refl
        (ap (λ (x : Lists). wait ++ x) (by_event Data 0 g.0.comes)
        ∙ sym (holds_last e c.event c.at c.given k.queue whole g))
        (up_awake e.life g.0.living) (λ _. refl),
    inr (g.0.living, g.2),
  )

  -- ---- any event

  flows : Flows (record { before = k; call = c; result = came_to k c }) × Behind (came_to k c).outcome.end
  unfolding performed
  flows =
      by_call k c (λ (x : Entry). Flows x × Behind x.result.outcome.end)
      (λ a g. let none = (refused_brings c.event (number_of a) (stay_refused e c.event c.at c.given (length c.out) a g)).1 in
      (still refl refl (nothing_in (number_of a) none) refl refl (λ alive. alive), behind))
      (λ _. record {
        notes = λ a g. let none = (note_brings e c.event c.at c.given a g).1 in
            (still refl refl (nothing_in (number_of a) none) refl refl (λ alive. alive), behind);
        moves = move_flows;
        starts = start_flows;
        hears = hear_flows;
        says = say_flows;
      })

-- ---- every run

-- handed in, sent, lost and waiting in one connection, and nothing lost before Idle
record Ordered (e : End) (q : List ℕ) (gone sent lost : Lists) : Type 0 where
  order : gone ≡ sent ++ (lost ++ entries q e.ring)
  kept : Alive e → lost ≡ []

-- lists that stay in order when some move on
moves_on : (sent lost wait more said gone rest : Lists) → lost ≡ [] → wait ++ more ≡ (said ++ gone) ++ rest
    → (sent ++ (lost ++ wait)) ++ more ≡ (sent ++ said) ++ ((lost ++ gone) ++ rest)
moves_on sent lost wait more said gone rest none' is =
    rw none' (append_assoc sent wait more ∙ ap (λ (l : Lists). sent ++ l) is ∙ simp append_assoc)

stands_still : (sent lost wait : Lists) → (sent ++ (lost ++ wait)) ++ [] ≡ (sent ++ []) ++ ((lost ++ []) ++ wait)
stands_still sent lost wait = simp append-nil

module _ (x : Entry) (xs : List Entry)
    (before : Ordered x.before.end x.before.queue (in_connection handed_in xs) (in_connection sent_in xs) (in_connection lost_in xs)) where
  abbrev sent : Lists
  sent = in_connection sent_in xs

  abbrev lost : Lists
  lost = in_connection lost_in xs

  next_ordered : Flows x
      → Ordered x.result.outcome.end x.result.queue (in_connection handed_in (x ∷ xs)) (in_connection sent_in (x ∷ xs)) (in_connection lost_in (x ∷ xs))
  unfolding in_connection
  next_ordered (anew begins none') = rw begins (record { order = sym none'; kept = λ _. refl })
  next_ordered (still goes_on high none' silent wait alive) =
      rw (goes_on, high, none', silent)
      (record {
        order = ap (λ (l : Lists). l ++ []) before.order ∙ stands_still sent lost (waiting x.before)
            ∙ ap (λ (l : Lists). (sent ++ []) ++ ((lost ++ []) ++ l)) (sym wait);
        kept = λ living. append-nil lost ∙ before.kept (alive living);
      })
  next_ordered (turns goes_on is alive falls) =
      rw goes_on
      (record {
        order = ap (λ (l : Lists). l ++ handed_in x) before.order
            ∙ moves_on sent lost (waiting x.before) (handed_in x) (sent_in x) (lost_in x) (waiting (kept_in x.result)) (before.kept alive) is;
        kept = λ living. ap₂ (λ (y z : Lists). y ++ z) (before.kept alive) (falls living);
      })

module _ (m : Making) (sound : Sound m) where
  whole : (cs : List Call) → length (after m cs).queue ≡ size
  whole cs = (run_lasts m cs).2 ∙ sound.1

  run_behind : (cs : List Call) → Behind (after m cs).end
  unfolding after
  run_behind [] = inl refl
  run_behind (c ∷ cs) = (flows (after m cs) c (whole cs) (run_behind cs)).1

  run_ordered : (cs : List Call)
      → Ordered (after m cs).end (after m cs).queue (in_connection handed_in (history m cs)) (in_connection sent_in (history m cs)) (in_connection lost_in (history m cs))
  unfolding after history in_connection
  run_ordered [] = record { order = refl; kept = λ _. refl }
  run_ordered (c ∷ cs) =
      next_ordered (entry_of m cs c) (history m cs) (run_ordered cs) (flows (after m cs) c (whole cs) (run_behind cs)).0

pub sending : Sending
sending m sound cs = (run_ordered m sound cs).order

pub nothing_lost : NothingLost
nothing_lost m sound cs = (run_ordered m sound cs).kept

pub waits_while_up : WaitsWhileUp
waits_while_up m sound cs down =
    let k = after m cs in
    ⊎_elim (λ z. none_wait k.queue k.end.ring z) (λ both. absurd (down both.0)) (run_behind m sound cs)
