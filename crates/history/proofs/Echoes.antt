-- The stamps to echo are those of the last message accepted.
use Rattle.std.specs.Prelude.{Some}
use Prim.Native.Nat.{ℕ, ◌%◌, ◌^◌}
use native.Mathlib.Omega.{arith}
use mathlib.Core.Bool.{Bool, true, false}
use mathlib.Core.List.{List, [], ◌∷◌, ◌++◌}
use lib.ListN.{length}
use mathlib.Core.Path.{◌≡◌, refl, ap, subst, ◌∙◌}
use Rattle.queue.specs.Ring.{oldest_in}
use Rattle.wire.proofs.Digits.{written_reads}
use Rattle.wire.proofs.Parsing.{reads_as}
use Rattle.wire.specs.Bytes.{number_at}
use Rattle.wire.specs.Message.{parse, encode, header_bytes}
use Rattle.wire.specs.declared.message.Body.{Body}
use Rattle.wire.specs.declared.message.Body.TheVariants.{OffsetStart, OffsetAnsw1, OffsetAnsw2, OffsetEst, OffsetEnd}
use Rattle.wire.specs.declared.message.Header.{Header}
use Rattle.wire.specs.declared.message.Message.{Message}
use Rattle.rules.specs.Answers.{number_of}
use Rattle.rules.specs.Claims.{answer_of}
use Rattle.rules.specs.Perform.{performed}
use Rattle.rules.specs.Place.{front_after}
use Rattle.rules.specs.Talking.{has_gap, delivered_answer, delivering}
use Rattle.rules.specs.declared.answer.Answer.TheVariants.{Handled}
use Rattle.rules.specs.declared.act.Event.{Event}
use Rattle.rules.specs.declared.act.Act.{Act}
use Rattle.rules.specs.declared.act.Act.TheVariants.{Note, Move, Start, Hear, Say}
use Rattle.rules.specs.declared.act.Swap.{Swap}
use Rattle.rules.specs.declared.act.Measurement.{Measurement}
use Rattle.rules.specs.declared.act.ConnectionMove.{ConnectionMove}
use Rattle.rules.specs.declared.act.ConnectionMove.TheVariants.{Ask, Accept, Lose, Fall}
use Rattle.rules.specs.declared.act.Exchange.{Exchange}
use Rattle.rules.specs.declared.act.Exchange.TheVariants.{Begin, Greet, Measure, Estimate, Finish, Rise}
use Rattle.rules.specs.declared.act.Verdict.{Verdict}
use Rattle.rules.specs.declared.act.Verdict.TheVariants.{Deliver, Report}
use Rattle.rules.specs.declared.act.Speech.{Speech}
use Rattle.rules.specs.declared.act.Speech.TheVariants.{Quiet, Beat, Speak, Drain, Hold}
use Rattle.rules.specs.declared.state.Echo.{Echo}
use Rattle.rules.specs.declared.state.Life.{Life}
use Rattle.rules.specs.declared.state.Life.TheVariants.{Idle, Opening, Settling, Greeted, Answering, Closing}
use Rattle.rules.specs.declared.state.End.{End}
use Rattle.rules.proofs.Answered.{exchange_awake}
use Rattle.rules.proofs.Claims.{step_holds_nothing}
use Rattle.rules.proofs.Grounds.{Heard, ExchangeGrounds, VerdictGrounds, SpeechGrounds}
use Rattle.rules.proofs.Lives.{apart, up_awake}
use Rattle.run.specs.Run.{Making, Call, Entry, Kept, came_to, after, history, entry_of}
use Rattle.run.specs.Events.{opens, is_acceptance, is_message_at}
use Rattle.run.proofs.Brought.{delivered_yes, refused_brings, stay_refused, failure_refused, note_brings}
use Rattle.run.proofs.Calls.{entry_by, by_call}
use Rattle.history.specs.Echoes.{no_echo, echo_of, echo_since, EchoesLastAccepted, RestsEmpty}
use Rattle.history.specs.Numbering.{leaving}
use Rattle.history.specs.Seen.{counted}

-- ---- what one event does to the stamps to echo

abbrev Living : Life → Type 0
Living l = l ≡ Idle → ⊥

-- a message that echoes these stands at the front of the output
abbrev Shows : List ℕ → Echo → Type 0
Shows out echo = (number_at 4 out 7 ≡ echo.peer.0 % 2 ^ 32) × (number_at 4 out 11 ≡ echo.own.0 % 2 ^ 32)

-- a message that leaves echoes what the end holds then
abbrev Echoing : Entry → Type 0
Echoing x = leaving x ≡ 1 → Shows x.result.out x.result.outcome.end.line.echo

-- an event opens a connection, or accepts a message, or does neither
data Takes (x : Entry) : Type 0 where
  anew : opens x.result ≡ true → x.result.outcome.end.line.echo ≡ no_echo → leaving x ≡ 0 → Takes x
  accepts : opens x.result ≡ false → is_acceptance x.call.event (answer_of x.result) ≡ true
      → x.result.outcome.end.line.echo ≡ echo_of x → Echoing x → Takes x
  neither : opens x.result ≡ false → is_acceptance x.call.event (answer_of x.result) ≡ false
      → (Living x.result.outcome.end.life → Living x.before.end.life × (x.result.outcome.end.line.echo ≡ x.before.end.line.echo))
      → (leaving x ≡ 1 → Living x.result.outcome.end.life) → Echoing x → Takes x
  goes_down : opens x.result ≡ false → x.result.outcome.end.life ≡ Idle → leaving x ≡ 0 → Takes x

shows : (m : Message) (d rest : List ℕ)
    → Shows (encode m d ++ rest) (record { peer = m.header.stamps.echo; own = m.header.stamps.receipt })
unfolding encode header_bytes
shows m d rest =
    (written_reads 4 m.header.stamps.echo.0 (encode m d ++ rest) 7 refl, written_reads 4 m.header.stamps.receipt.0 (encode m d ++ rest) 11 refl)

none_leaves : {A : Type 0} (n : ℕ) → n ≡ 0 → n ≡ 1 → A
none_leaves n zero' one' = absurd (omega arith)

module _ (k : Kept) (c : Call) where
  abbrev e : End
  e = k.end

  abbrev Take : Act → Type 0
  Take act = Takes (entry_by k c act)

  -- the header of a message that was read has the bytes' own stamps
  same_echo : (h : Header) (body : Body) → parse c.given ≡ Some (record { header = h; body = body })
      → record { peer = h.stamps.sent; own = c.at } ≡ echo_of (entry_by k c (Note Handled))
  same_echo h body reads =
      ap (λ (x : Header). record { peer = x.stamps.sent; own = c.at }) (reads_as c.given (record { header = h; body = body }) reads).0

  -- a message of the start is accepted with 0
  accepted : (l : Life) (h : Header) (body : Body) → Heard e c.event c.at c.given l h body → is_acceptance c.event 0 ≡ true
  accepted l h body hears = ap (λ (v : Event). is_acceptance v 0) hears.comes

  move_takes : (m : ConnectionMove) → Take (Move m)
  unfolding performed
  move_takes Ask = anew refl refl refl
  move_takes Accept = anew refl refl refl
  move_takes Lose = goes_down refl refl refl
  move_takes (Fall answer error) = goes_down refl refl refl

  start_takes : (x : Exchange) → ExchangeGrounds e c.event c.at c.given x → Take (Start x)
  unfolding performed
  start_takes (Begin goes) g =
      let alive = exchange_awake e c.event c.at c.given (Begin goes) g in
      neither refl (ap (λ (v : Event). is_acceptance v 0) g.0.comes) (λ _. (alive, refl)) (λ _. apart Opening Idle refl) (λ _. shows _ [] _)
  start_takes (Greet s) g =
      accepts refl (accepted Greeted g.0 OffsetStart g.2.hearing)
      (ap (λ (x : Swap). record { peer = x.came.stamps.sent; own = c.at }) g.1 ∙ same_echo g.0 OffsetStart g.2.hearing.reads)
      (λ _. shows _ [] _)
  start_takes (Measure m) g =
      accepts refl (accepted Opening g.0 OffsetAnsw1 g.2.hearing)
      (ap (λ (x : Measurement). record { peer = x.swap.came.stamps.sent; own = c.at }) g.1
      ∙ same_echo g.0 OffsetAnsw1 g.2.hearing.reads) (λ _. shows _ [] _)
  start_takes (Estimate m) g =
      accepts refl (accepted Answering g.0 OffsetAnsw2 g.2.hearing)
      (ap (λ (x : Measurement). record { peer = x.swap.came.stamps.sent; own = c.at }) g.1
      ∙ same_echo g.0 OffsetAnsw2 g.2.hearing.reads) (λ _. shows _ [] _)
  start_takes (Finish s) g =
      accepts refl (accepted Settling g.0 (OffsetEst g.1 g.2) g.4.hearing)
      (ap (λ (x : Swap). record { peer = x.came.stamps.sent; own = c.at }) g.3
      ∙ same_echo g.0 (OffsetEst g.1 g.2) g.4.hearing.reads) (λ _. shows _ [] _)
  start_takes (Rise h) g =
      accepts refl (accepted Closing h OffsetEnd g.hearing) (same_echo h OffsetEnd g.hearing.reads) (none_leaves 0 refl)

  no_message : (train : Bool) → counted (is_message_at (front_after (delivering train) c.given k.queue)) ≡ 0
  no_message true = refl
  no_message false = refl

  hear_takes : (v : Verdict) → VerdictGrounds e c.event c.at c.given v → Take (Hear v)
  unfolding performed
  hear_takes (Deliver d) g =
      accepts refl
      (ap (λ (v : Event). is_acceptance v (number_of (delivered_answer (has_gap d)))) g.0.comes ∙ delivered_yes (has_gap d))
      (same_echo d.header _ g.0.reads) (none_leaves _ (no_message d.train))
  hear_takes (Report answer failures) g =
      neither refl (refused_brings c.event (number_of answer) (failure_refused e c.event c.at c.given answer g.0)).0
      (λ living. (living, refl)) (none_leaves 0 refl) (none_leaves 0 refl)

  say_takes : (s : Speech) → SpeechGrounds e c.event c.at c.given s → Take (Say s)
  unfolding performed
  say_takes Quiet g =
      neither refl (ap (λ (v : Event). is_acceptance v 0) g.0.comes) (λ living. (living, refl)) (none_leaves 0 refl) (none_leaves 0 refl)
  say_takes Beat g =
      neither refl (ap (λ (v : Event). is_acceptance v 0) g.0.comes) (λ living. (living, refl)) (λ _. up_awake e.life g.0.living) (λ _. shows _ [] _)
  say_takes Speak g =
      neither refl (ap (λ (v : Event). is_acceptance v 0) g.0.comes) (λ living. (living, refl)) (λ _. up_awake e.life g.0.living)
      (λ _. shows _ c.given _)
  say_takes Drain g =
      neither refl (ap (λ (v : Event). is_acceptance v 0) g.0.comes) (λ living. (living, refl)) (λ _. up_awake e.life g.0.living)
      (λ _. shows _ (oldest_in k.queue e.ring) _)
  say_takes Hold g =
      neither refl (ap (λ (v : Event). is_acceptance v 0) g.0.comes) (λ living. (living, refl)) (none_leaves 0 refl) (none_leaves 0 refl)

  takes : Takes (record { before = k; call = c; result = came_to k c })
  unfolding performed
  takes =
      by_call k c Takes
      (λ a g. neither refl (refused_brings c.event (number_of a) (stay_refused e c.event c.at c.given (length c.out) a g)).0
      (λ living. (living, refl)) (none_leaves 0 refl) (none_leaves 0 refl))
      (λ _. record {
        notes = λ a g. neither refl (note_brings e c.event c.at c.given a g).0 (λ living. (living, refl)) (none_leaves 0 refl) (none_leaves 0 refl);
        moves = λ m g. move_takes m;
        starts = start_takes;
        hears = hear_takes;
        says = say_takes;
      })

-- ---- over a run

abbrev Holds : End → List Entry → Type 0
Holds e xs = Living e.life → e.line.echo ≡ echo_since xs

module _ (x : Entry) (xs : List Entry) (before : Holds x.before.end xs) where
  holds_echo : Takes x → Holds x.result.outcome.end (x ∷ xs)
  unfolding echo_since
  holds_echo (anew begins zero' none') living = rw begins zero'
  holds_echo (accepts on yes' is so) living = rw (on, yes') is
  holds_echo (neither on no' kept leaves so) living = let both = kept living in rw (on, no') (both.1 ∙ before both.0)
  holds_echo (goes_down on idle none') living = absurd (living idle)

  -- a message that leaves echoes what the end holds, which is what was last accepted
  shows_echo : Takes x → leaving x ≡ 1 → Shows x.result.out (echo_since (x ∷ xs))
  unfolding echo_since
  shows_echo (anew begins zero' none') says = none_leaves _ none' says
  shows_echo (accepts on yes' is so) says = rw (on, yes') (subst (Shows x.result.out) is (so says))
  shows_echo (neither on no' kept leaves so) says =
      let both = kept (leaves says) in rw (on, no') (subst (Shows x.result.out) (both.1 ∙ before both.0) (so says))
  shows_echo (goes_down on idle none') says = none_leaves _ none' says

echo_held : (m : Making) (cs : List Call) → Holds (after m cs).end (history m cs)
unfolding after history
echo_held m [] = λ living. absurd (living refl)
echo_held m (c ∷ cs) = holds_echo (entry_of m cs c) (history m cs) (echo_held m cs) (takes (after m cs) c)

pub echoes_last_accepted : EchoesLastAccepted
echoes_last_accepted m cs c says = shows_echo (entry_of m cs c) (history m cs) (echo_held m cs) (takes (after m cs) c) says

-- ---- an Idle end

pub rests_empty : RestsEmpty
unfolding after
rests_empty m [] = λ idle. (refl, refl)
rests_empty m (c ∷ cs) =
    step_holds_nothing (after m cs).end c.event c.at c.given c.out (after m cs).queue (rests_empty m cs)
