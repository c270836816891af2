-- The one walk through the acts: what every event makes of a side is one of the cases of proofs/Change.antt.
use Prim.Native.Nat.{ℕ, ◌+◌, ◌≤◌}
use native.Mathlib.Omega.{arith}
use mathlib.Core.Bool.{Bool, true, false, and-eq-true_iff, false≢true, not}
use mathlib.Core.List.{List, [], ◌++◌}
use mathlib.Core.Logic.{◌⊎◌, inl, inr}
use mathlib.Core.Path.{◌≡◌, refl, sym, ap, ◌∙◌}
use borrow.Author.Tests.{eqb-true, leb-true}
use lib.Dec.{eqb}
use lib.ListN.{length, take, drop}
use lib.Seq.{take_at}
use Rattle.judge.proofs.Difference.{diff_fits}
use Rattle.judge.specs.Clock.{same_of, narrow_of}
use Rattle.judge.specs.declared.clock.Reading.{Reading}
use Rattle.judge.specs.declared.clock.Offsets.{Offsets}
use Rattle.queue.proofs.Claims.{oldest_sendable}
use Rattle.queue.specs.Ring.{size, data_from, entries, oldest_in, without_oldest}
use Rattle.wire.specs.Claims.{Fits, BodyFits, carried}
use Rattle.wire.specs.Message.{encode, train_in, kind_of}
use Rattle.wire.specs.Writing.{carries}
use Rattle.wire.specs.declared.message.Header.{Header}
use Rattle.wire.specs.declared.message.Body.{Body}
use Rattle.wire.specs.declared.message.Body.TheVariants.{OffsetStart, OffsetAnsw1, OffsetAnsw2, OffsetEst, OffsetEnd, LifeSign, TrainData}
use Rattle.wire.specs.declared.message.Message.{Message}
use Rattle.rules.proofs.Acts.{EachTaken}
use Rattle.wire.proofs.Carrying.{is_carried}
use Rattle.rules.proofs.Grounds.{Heard, Next, InReach, NoteGrounds, MoveGrounds, ExchangeGrounds, VerdictGrounds, SpeechGrounds, StayGrounds, body_of}
use Rattle.rules.proofs.Queued.{holds_last, drains_first}
use Rattle.rules.proofs.Lives.{apart, starting_awake, starting_low}
use Rattle.rules.specs.Answers.{number_of}
use Rattle.rules.specs.Hearing.{age_for, ahead_for}
use Rattle.rules.specs.Line.{posted_line}
use Rattle.rules.specs.Perform.{performed}
use Rattle.rules.specs.Starting.{offsets_from, estimate_of, measures}
use Rattle.rules.specs.State.{phase_of, is_up}
use Rattle.rules.specs.declared.answer.Answer.{Answer}
use Rattle.rules.specs.declared.act.Event.TheVariants.{Message as message}
use Rattle.rules.specs.declared.act.Act.{Act}
use Rattle.rules.specs.declared.act.Act.TheVariants.{Stay, Note, Move, Start, Hear, Say}
use Rattle.rules.specs.declared.act.ConnectionMove.{ConnectionMove}
use Rattle.rules.specs.declared.act.ConnectionMove.TheVariants.{Ask, Accept, Lose, Fall}
use Rattle.rules.specs.declared.act.Exchange.{Exchange}
use Rattle.rules.specs.declared.act.Exchange.TheVariants.{Begin, Greet, Measure, Estimate, Finish, Rise}
use Rattle.rules.specs.declared.act.Verdict.{Verdict}
use Rattle.rules.specs.declared.act.Verdict.TheVariants.{Deliver, Report}
use Rattle.rules.specs.declared.act.Speech.{Speech}
use Rattle.rules.specs.declared.act.Speech.TheVariants.{Quiet, Beat, Speak, Drain, Hold}
use Rattle.rules.specs.declared.state.Life.{Life}
use Rattle.rules.specs.declared.state.Phase.TheVariants.{Starting as starting}
use Rattle.rules.specs.declared.state.Life.TheVariants.{Idle, Calling, Opening, Settling, Greeted, Answering, Closing, Up}
use Rattle.run.proofs.Brought.{refused_brings, stay_refused, failure_refused, fall_refused, note_brings, delivered_yes}
use Rattle.run.proofs.Reach.{in_reach}
use Rattle.run.proofs.Calls.{entry_by, by_call}
use Rattle.run.proofs.Choices.{and-false}
use Rattle.run.specs.Events.{is_message, is_data, asks as asks_in, accepts as accepts_in}
use Rattle.run.specs.Run.{Entry}
use Rattle.pair.specs.World.{Letter, Side, clock_of}
use Rattle.pair.specs.Happening.{Happening, bytes_beside, call_at, kept_of, result_at}
use Rattle.pair.specs.Told.{told_of}
use Rattle.pair.proofs.Notes.{Note as Noted, note_of, notes_of, notes_length, note_reads, note_written}
use Rattle.pair.proofs.View.{View, view_of, clock_at, living, gauging, serving, sending, marked, message_of}
use Rattle.pair.proofs.Change.{Hears, Measured, Lives, Sends, Changes, Step, heard, has_offsets, is_answer, is_train}
use Rattle.pair.proofs.Change.Change.{falls, gauges, lives, serves, sends, hears, delivers}
use Rattle.pair.proofs.Change.Takes.{no_data, given, oldest}
use Rattle.pair.proofs.Change.Waits.{marks, holds}
use Rattle.pair.proofs.Change.Changes.{done, next}
use Rattle.pair.proofs.Change.Step.{asks, accepts, goes}
use Rattle.pair.proofs.Readable.{Widths, clock_wide, heard_wide}

-- ---- each act

module _ (time asked : ℕ) (s : Side) (c : Happening) (whole : length s.queue ≡ size)
    (wide : Widths s.end.line.numbers.next s.end.line.echo) (fits : c.event ≡ message → Fits (note_of c.letter).message) where
  abbrev at : Reading
  at = clock_of s time

  abbrev Steps : Entry → Type 0
  Steps x =
      Step time asked c (view_of s) (view_of (told_of time asked s c x.result)) (asks_in x.result) (accepts_in x.result)

  abbrev By : Act → Type 0
  By act = Steps (entry_by (kept_of s) (call_at time s c) act)

  move_steps : (m : ConnectionMove) → MoveGrounds s.end c.event at (bytes_beside c) m → By (Move m)
  unfolding performed
  move_steps Ask g = rw (ap is_message g.0.comes, ap is_data g.0.comes, and-false) (asks g.2)
  move_steps Accept g = rw (ap is_message g.0, ap is_data g.0, and-false) (accepts g.1)
  move_steps Lose g = rw (ap is_message g.0, ap is_data g.0, and-false) (goes (next falls done))
  move_steps (Fall answer error) g =
      let u = refused_brings c.event (number_of answer) (fall_refused s.end c.event at (bytes_beside c) answer error g) in
      rw (u.0, u.1, and-false) (goes (next falls done))

  -- ---- what comes

  hears_as : (life : Life) (h : Header) (body : Body) → Heard s.end c.event at (bytes_beside c) life h body → (life ≡ Idle → ⊥)
      → (1 ≤ ahead_for s.end h) × (ahead_for s.end h ≤ 32_767) → Hears c (view_of s) h body
  hears_as life h body g alive d =
      record {
        comes = g.comes;
        alive = λ idle. alive (sym g.living ∙ idle);
        says = (note_reads c.letter (record { header = h; body = body }) (rw g.comes at g.reads)).0;
        ahead = d.0;
        near = d.1;
      }

  hears_next : (life : Life) (h : Header) (body : Body) → Next s.end c.event at (bytes_beside c) life h body → (life ≡ Idle → ⊥)
      → Hears c (view_of s) h body
  hears_next life h body g alive =
      let one = eqb-true (ahead_for s.end h) 1 g.next in hears_as life h body g.hearing alive (omega arith, omega arith)

  -- ---- what goes out

  -- the letter of a message, and how it is noted
  abbrev posted : Message → List ℕ → Letter
  posted m d =
      record {
        connection = s.connection;
        index = s.sent;
        time = time;
        place = length s.log;
        bytes = take (length (encode m d)) (encode m d ++ drop (length (encode m d)) c.out);
      }

  abbrev noted : Message → List ℕ → Noted
  noted m d = record { letter = posted m d; message = m; train = carried m.body d }

  -- what a view of this side sends
  record Goes (x : View) (body : Body) (d : List ℕ) : Type 0 where
    notes : note_of (posted (message_of (clock_at time x) body x) d) ≡ noted (message_of (clock_at time x) body x) d
    sent : Sends time x (noted (message_of (clock_at time x) body x) d)

  go : (x : View) (body : Body) (d : List ℕ) → x.connection ≡ s.connection → x.count.sent ≡ s.sent
      → x.story.log ≡ notes_of s.log → (x.life ≡ Idle → ⊥) → (x.life ≡ Greeted → 1 ≤ x.count.accepted)
      → (is_answer body ≡ true → 1 ≤ x.count.accepted) → (kind_of body ≡ 6 → x.life ≡ Up)
      → Widths x.count.next x.timing.echo → BodyFits body → carries body d ≡ true → Goes x body d
  go x body d name sent log alive greeted answer up w small ok =
      let m = message_of (clock_at time x) body x in
      let b = take_at (encode m d) (drop (length (encode m d)) c.out) (length (encode m d)) refl in
      let f : Fits m = record { number = w.number; sent = clock_wide time x; echo = w.peer; receipt = w.own; body = small } in
      let n = note_written (posted m d) m d b f ok in
      record {
        notes = n.1;
        sent = record {
          alive = alive;
          greeted = greeted;
          header = refl;
          answer = answer;
          up = up;
          reads = n.0;
          fits = f;
          connection = sym name;
          index = sym sent;
          when = refl;
          place = sym (notes_length s.log) ∙ ap length (sym log);
        };
      }

  record Answered (x : View) (body : Body) : Type 0 where
    notes : note_of (posted (message_of (clock_at time x) body x) []) ≡ noted (message_of (clock_at time x) body x) []
    chain : Changes time c (view_of s) (sending (noted (message_of (clock_at time x) body x) []) x)

  -- the offsets of an end that begins to measure
  abbrev posting : Offsets
  posting = (posted_line s.end.line at).offsets

  -- a start goes on to another life
  goes_on : (x : View) (from to : Life) → x.life ≡ from → phase_of from ≡ starting → (from ≡ Greeted → 1 ≤ x.count.accepted)
      → (to ≡ Up → 1 ≤ x.count.accepted) → (has_offsets to ≡ true → (has_offsets x.life ≡ true) ⊎ Measured time c x)
      → Lives time c x to
  goes_on x from to is phase met some measured =
      record {
        alive = λ idle. starting_awake from phase (sym is ∙ idle);
        greeted = λ greeted. met (sym is ∙ greeted);
        low = λ up. starting_low from phase (sym is ∙ up);
        heard = some;
        measured = measured;
      }

  some : (n : ℕ) → 1 ≤ n + 1
  some n = omega arith

  -- a message of the start is accepted
  abbrev hearing : Header → View
  hearing h = heard time c h (view_of s)

  -- the pair that it gives is within W
  measured : (h : Header) (body : Body) → is_answer body ≡ true → measures s.end at h ≡ true → Hears c (view_of s) h body
      → Measured time c (gauging (offsets_from h at) (hearing h))
  measured h body answers ok k =
      let both = (and-eq-true_iff (same_of h.stamps.echo s.end.line.offsets.since)
      (narrow_of (offsets_from h at) s.end.settings.spread)).0 ok in
      record { header = h; body = body; comes = k.comes; says = k.says; answer = answers; pair = refl; narrow = leb-true _ _ both.1 }

  -- and answered, with other offsets and in another life
  abbrev answering : Header → Offsets → Life → View
  answering h pair to = living to (gauging pair (hearing h))

  answer : (from to : Life) (h : Header) (came body : Body) (pair : Offsets) → Next s.end c.event at (bytes_beside c) from h came
      → phase_of from ≡ starting → phase_of to ≡ starting → has_offsets from ≡ false
      → (Hears c (view_of s) h came → has_offsets to ≡ true → Measured time c (gauging pair (hearing h)))
      → is_train body ≡ false → (kind_of body ≡ 6 → ⊥) → BodyFits body → carries body [] ≡ true
      → Answered (answering h pair to) body
  answer from to h came body pair g low still bare found plain start small ok =
      let is = g.hearing.living in
      let k = hears_next from h came g (starting_awake from low) in
      let o = go (answering h pair to) body [] refl refl refl (starting_awake to still) (λ _. some c.letter.index)
      (λ _. some c.letter.index) (λ t. absurd (start t)) (heard_wide time c (view_of s) h came wide k (fits k.comes)) small ok in
      record {
        notes = o.notes;
        chain =
            next (hears h came k)
            (next (gauges pair (ap has_offsets is ∙ bare))
            (next (lives to (goes_on (gauging pair (hearing h)) from to is low (λ _. some c.letter.index)
            (λ up. absurd (starting_low to still up)) (λ t. inr (found k t))))
            (next (sends _ _ o.sent (no_data plain)) done)));
      }

  -- and the end comes Up, where nothing has gone yet
  abbrev calm : Header → View
  calm h = serving (marked false (view_of s).user) (hearing h)

  rise : (from : Life) (h : Header) → s.end.life ≡ from → phase_of from ≡ starting → has_offsets from ≡ true → {y : View}
      → Changes time c (living Up (calm h)) y → Changes time c (hearing h) y
  rise from h is low gauged rest =
      next (serves _ (marks false (λ up. absurd (starting_low from low (sym is ∙ up)))))
      (next (lives Up (goes_on (calm h) from Up is low (λ _. some c.letter.index) (λ _. some c.letter.index)
      (λ _. inl (ap has_offsets is ∙ gauged)))) rest)

  start_steps : (x : Exchange) → ExchangeGrounds s.end c.event at (bytes_beside c) x → By (Start x)
  unfolding performed
  start_steps (Begin body) g =
      let o = go (living Opening (gauging posting (view_of s))) OffsetStart [] refl refl refl (apart Opening Idle refl)
      (λ t. absurd (apart Opening Greeted refl t)) (λ t. absurd (false≢true t)) (λ t. absurd (omega arith)) wide tt refl in
      rw (g.2, ap is_message g.0.comes, ap is_data g.0.comes, and-false, o.notes)
      (goes (next (gauges posting (ap has_offsets g.1))
      (next (lives Opening (goes_on _ Calling Opening g.1 refl (λ t. absurd (apart Calling Greeted refl t))
      (λ t. absurd (apart Opening Up refl t)) (λ t. absurd (false≢true t))))
      (next (sends _ _ o.sent (no_data refl)) done))))
  start_steps (Greet w) g =
      let n = g.2.hearing in
      let e = answer Greeted Answering g.0 OffsetStart OffsetAnsw1 posting g.2 refl refl refl (λ k t. absurd (false≢true t)) refl
      (λ z. omega arith) tt refl in
      rw (g.1, ap is_message n.comes, ap is_data n.comes, ap is_up n.living, e.notes) (goes e.chain)
  start_steps (Measure m) g =
      let n = g.2.hearing in
      let e = answer Opening Settling g.0 OffsetAnsw1 OffsetAnsw2 (offsets_from g.0 at) g.2 refl refl refl
      (λ k t. measured g.0 OffsetAnsw1 refl g.3 k) refl (λ z. omega arith) tt refl in
      rw (g.1, ap is_message n.comes, ap is_data n.comes, ap is_up n.living, e.notes) (goes e.chain)
  start_steps (Estimate m) g =
      let h = g.0 in
      let n = g.2.hearing in
      let e = answer Answering Closing h OffsetAnsw2 (estimate_of (offsets_from h at)) (offsets_from h at) g.2 refl refl refl
      (λ k t. measured h OffsetAnsw2 refl g.3 k) refl (λ z. omega arith)
      (diff_fits 32 h.stamps.echo.0 h.stamps.receipt.0, diff_fits 32 at.0 h.stamps.sent.0) refl in
      rw (g.1, ap is_message n.comes, ap is_data n.comes, ap is_up n.living, e.notes) (goes e.chain)
  start_steps (Finish w) g =
      let h = g.0 in
      let n = g.4.hearing in
      let k = hears_next Settling h (OffsetEst g.1 g.2) g.4 (apart Settling Idle refl) in
      let o = go (living Up (calm h)) OffsetEnd [] refl refl refl (apart Up Idle refl) (λ _. some c.letter.index)
      (λ _. some c.letter.index) (λ t. absurd (omega arith))
      (heard_wide time c (view_of s) h (OffsetEst g.1 g.2) wide k (fits k.comes)) tt refl in
      rw (g.3, ap is_message n.comes, ap is_data n.comes, ap is_up n.living, o.notes)
      (goes (next (hears h (OffsetEst g.1 g.2) k) (rise Settling h n.living refl refl (next (sends _ _ o.sent (no_data refl)) done))))
  start_steps (Rise h) g =
      let n = g.hearing in
      rw (ap is_message n.comes, ap is_data n.comes, ap is_up n.living)
      (goes (next (hears h OffsetEnd (hears_next Closing h OffsetEnd g (apart Closing Idle refl))) (rise Closing h n.living refl refl done)))

  -- ---- while Up

  deliver_steps : (h : Header) (age skipped : ℕ) (train : Bool)
      → Heard s.end c.event at (bytes_beside c) Up h (body_of s.end c.event at (bytes_beside c) train)
      → InReach s.end c.event at (bytes_beside c) h → age_for s.end at h ≤ s.end.settings.age
      → By (Hear (Deliver (record { header = h; age = age; skipped = skipped; train = train })))
  unfolding performed
  deliver_steps h age skipped true g near young =
      let reach = in_reach s.end c.event at (bytes_beside c) h near in
      let k = hears_as Up h TrainData g (apart Up Idle refl) (reach.some, reach.half) in
      let b = take_at (train_in c.letter.bytes) (drop (length (train_in c.letter.bytes)) c.out) (length (train_in c.letter.bytes)) refl in
      let t = (note_reads c.letter (record { header = h; body = TrainData }) (rw g.comes at g.reads)).1 in
      rw (ap is_message g.comes, ap is_data g.comes, delivered_yes (not (eqb skipped 0)), ap is_up g.living, b ∙ sym t)
      (goes (next (delivers h TrainData k g.living refl young) done))
  deliver_steps h age skipped false g near young =
      let reach = in_reach s.end c.event at (bytes_beside c) h near in
      let k = hears_as Up h LifeSign g (apart Up Idle refl) (reach.some, reach.half) in
      rw (ap is_message g.comes, ap is_data g.comes, delivered_yes (not (eqb skipped 0)), ap is_up g.living)
      (goes (next (delivers h LifeSign k g.living refl young) done))

  hear_steps : (v : Verdict) → VerdictGrounds s.end c.event at (bytes_beside c) v → By (Hear v)
  unfolding performed
  hear_steps (Deliver d) g =
      deliver_steps d.header d.age d.skipped d.train g.0 g.2
      (leb-true (age_for s.end at d.header) s.end.settings.age g.3)
  hear_steps (Report answer failures) g =
      let u = refused_brings c.event (number_of answer) (failure_refused s.end c.event at (bytes_beside c) answer g.0) in
      rw (u.0, u.1, and-false) (goes done)

  -- train data go out
  go_train : (d : List ℕ) → s.end.life ≡ Up → carries TrainData d ≡ true → Goes (view_of s) TrainData d
  go_train d up ok =
      go (view_of s) TrainData d refl refl refl (λ idle. apart Up Idle refl (sym up ∙ idle)) (λ t. absurd (apart Up Greeted refl (sym up ∙ t)))
      (λ t. absurd (false≢true t)) (λ _. up) wide tt ok

  say_steps : (v : Speech) → SpeechGrounds s.end c.event at (bytes_beside c) v → By (Say v)
  unfolding performed
  say_steps Quiet g =
      rw (ap is_message g.0.comes, ap is_data g.0.comes, and-false)
      (goes (next (serves _ (marks false (λ _ _. ap (data_from s.queue s.end.ring.head) g.1))) done))
  say_steps Beat g =
      let up = g.0.living in
      let o = go (serving (marked true (view_of s).user) (view_of s)) LifeSign [] refl refl refl (λ idle. apart Up Idle refl (sym up ∙ idle))
      (λ t. absurd (apart Up Greeted refl (sym up ∙ t))) (λ t. absurd (false≢true t)) (λ _. up) wide tt refl in
      rw (ap is_message g.0.comes, ap is_data g.0.comes, and-false, o.notes)
      (goes (next (serves _ (marks true (λ _ t. absurd (false≢true (sym t))))) (next (sends _ _ o.sent (no_data refl)) done)))
  say_steps Speak g =
      let o = go_train c.given g.0.living (rw g.0.comes at g.1) in
      rw (ap is_message g.0.comes, ap is_data g.0.comes, and-false, o.notes)
      (goes (next (sends _ _ o.sent (given refl refl g.0.living g.2)) done))
  say_steps Drain g =
      let d = oldest_in s.queue s.end.ring in
      let fine = oldest_sendable s.queue s.end.ring whole in
      let o = go_train d g.0.living (is_carried d fine.0 fine.1) in
      rw (ap is_message g.0.comes, ap is_data g.0.comes, and-false, o.notes)
      (goes (next (sends _ _ o.sent
      (oldest refl (entries s.queue (without_oldest s.end.ring)) (drains_first s.end c.event at (bytes_beside c) s.queue g)
      g.0.living)) done))
  say_steps Hold g =
      let last = holds_last s.end c.event at (bytes_beside c) s.queue whole g in
      rw (ap is_message g.0.comes, ap is_data g.0.comes, and-false, rw g.0.comes at last)
      (goes (next (serves _ (holds g.0.living g.2)) done))

  note_steps : (a : Answer) → NoteGrounds s.end c.event at (bytes_beside c) a → By (Note a)
  unfolding performed
  note_steps a g =
      let u = note_brings s.end c.event at (bytes_beside c) a g in rw (u.0, u.1, and-false) (goes done)

  stay_steps : (a : Answer) → StayGrounds s.end c.event at (bytes_beside c) (length c.out) a → By (Stay a)
  unfolding performed
  stay_steps a g =
      let u = refused_brings c.event (number_of a) (stay_refused s.end c.event at (bytes_beside c) (length c.out) a g) in
      rw (u.0, u.1, and-false) (goes done)

  each_steps : EachTaken s.end c.event at (bytes_beside c) By
  each_steps = record { notes = note_steps; moves = move_steps; starts = start_steps; hears = hear_steps; says = say_steps }

  -- what one event makes of a side
  pub steps : Steps (record { before = kept_of s; call = call_at time s c; result = result_at time s c })
  steps = by_call (kept_of s) (call_at time s c) Steps stay_steps (λ t. each_steps)
