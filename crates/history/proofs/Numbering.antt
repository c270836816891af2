-- The number of the next message is the count of those that left, modulo 65,536.
use Prim.Native.Nat.{ℕ, ◌+◌, ◌%◌, ◌^◌}
use native.Mathlib.Nat.{mod-add-mod, mod-mod}
use native.Mathlib.Omega.{arith}
use mathlib.Core.Bool.{true, false}
use mathlib.Core.List.{List, [], ◌∷◌, ◌++◌}
use mathlib.Core.Path.{◌≡◌, refl, sym, ap, ◌∙◌}
use Rattle.judge.specs.declared.clock.Reading.{Reading}
use Rattle.queue.specs.Ring.{oldest_in}
use Rattle.wire.proofs.Tests.{by_test}
use Rattle.wire.proofs.Digits.{written_reads}
use Rattle.wire.specs.Bytes.{number_at}
use Rattle.wire.specs.Message.{encode, header_bytes}
use Rattle.wire.specs.declared.message.Message.{Message}
use Rattle.rules.specs.Perform.{performed}
use Rattle.rules.specs.Place.{front_after}
use Rattle.rules.specs.declared.act.Act.{Act}
use Rattle.rules.specs.declared.act.Act.TheVariants.{Move, Start, Hear, Say}
use Rattle.rules.specs.declared.act.ConnectionMove.{ConnectionMove}
use Rattle.rules.specs.declared.act.ConnectionMove.TheVariants.{Ask, Accept, Lose, Fall}
use Rattle.rules.specs.declared.act.Exchange.{Exchange}
use Rattle.rules.specs.declared.act.Exchange.TheVariants.{Begin, Greet, Measure, Estimate, Finish, Rise}
use Rattle.rules.specs.declared.act.Verdict.{Verdict}
use Rattle.rules.specs.declared.act.Verdict.TheVariants.{Deliver, Report}
use Rattle.rules.specs.declared.act.Speech.{Speech}
use Rattle.rules.specs.declared.act.Speech.TheVariants.{Quiet, Beat, Speak, Drain, Hold}
use Rattle.rules.specs.declared.state.Life.{Life}
use Rattle.rules.specs.declared.state.Life.TheVariants.{Idle}
use Rattle.rules.specs.declared.state.End.{End}
use Rattle.rules.proofs.Grounds.{ExchangeGrounds, SpeechGrounds}
use Rattle.rules.specs.declared.effect.Placing.{Placing}
use Rattle.rules.proofs.Answered.{exchange_awake}
use Rattle.rules.proofs.Lives.{up_awake}
use Rattle.run.specs.Run.{Making, Call, Entry, Kept, came_to, after, history, entry_of}
use Rattle.run.specs.Events.{opens, is_message_at}
use Rattle.run.proofs.Calls.{entry_by, by_call}
use Rattle.history.specs.Seen.{counted}
use Rattle.history.specs.Numbering.{leaving, sent_in_connection, Numbering}

-- ---- what one event does to the number of the next message

abbrev Living : Life → Type 0
Living l = l ≡ Idle → ⊥

-- a message with the number n and the reading `at` stands at the front of the output
abbrev Stands : List ℕ → ℕ → Reading → Type 0
Stands out n at = (number_at 2 out 1 ≡ n % 2 ^ 16) × (number_at 4 out 3 ≡ at.0 % 2 ^ 32)

-- an event opens a connection, or sends the next message, or does neither
data Counts (x : Entry) : Type 0 where
  anew : opens x.result ≡ true → leaving x ≡ 0 → x.result.outcome.end.line.numbers.next ≡ 0 → Counts x
  one : opens x.result ≡ false → leaving x ≡ 1 → Living x.before.end.life
      → Stands x.result.out x.before.end.line.numbers.next x.call.at
      → x.result.outcome.end.line.numbers.next ≡ (x.before.end.line.numbers.next + 1) % 2 ^ 16 → Counts x
  same : opens x.result ≡ false → leaving x ≡ 0
      → (Living x.result.outcome.end.life
      → Living x.before.end.life × (x.result.outcome.end.line.numbers.next ≡ x.before.end.line.numbers.next)) → Counts x

stands : (m : Message) (d rest : List ℕ) → Stands (encode m d ++ rest) m.header.number m.header.stamps.sent
unfolding encode header_bytes
stands m d rest =
    (written_reads 2 m.header.number (encode m d ++ rest) 1 refl, written_reads 4 m.header.stamps.sent.0 (encode m d ++ rest) 3 refl)

module _ (k : Kept) (c : Call) where
  abbrev e : End
  e = k.end

  abbrev Count : Act → Type 0
  Count act = Counts (entry_by k c act)

  move_counts : (m : ConnectionMove) → Count (Move m)
  unfolding performed
  move_counts Ask = anew refl refl refl
  move_counts Accept = anew refl refl refl
  move_counts Lose = same refl refl (λ living. absurd (living refl))
  move_counts (Fall answer error) = same refl refl (λ living. absurd (living refl))

  start_counts : (x : Exchange) → ExchangeGrounds e c.event c.at c.given x → Count (Start x)
  unfolding performed
  start_counts (Begin goes) g = one refl refl (exchange_awake e c.event c.at c.given (Begin goes) g) (stands _ [] _) refl
  start_counts (Greet s) g = one refl refl (exchange_awake e c.event c.at c.given (Greet s) g) (stands _ [] _) refl
  start_counts (Measure m) g = one refl refl (exchange_awake e c.event c.at c.given (Measure m) g) (stands _ [] _) refl
  start_counts (Estimate m) g = one refl refl (exchange_awake e c.event c.at c.given (Estimate m) g) (stands _ [] _) refl
  start_counts (Finish s) g = one refl refl (exchange_awake e c.event c.at c.given (Finish s) g) (stands _ [] _) refl
  start_counts (Rise h) g = same refl refl (λ _. (exchange_awake e c.event c.at c.given (Rise h) g, refl))

  hear_counts : (v : Verdict) → Count (Hear v)
  unfolding performed
  hear_counts (Deliver d) =
      same refl
      (by_test (λ (p : Placing). counted (is_message_at (front_after p c.given k.queue)) ≡ 0) d.train (λ _. refl) (λ _. refl))
      (λ living. (living, refl))
  hear_counts (Report answer failures) = same refl refl (λ living. (living, refl))

  say_counts : (s : Speech) → SpeechGrounds e c.event c.at c.given s → Count (Say s)
  unfolding performed
  say_counts Quiet g = same refl refl (λ living. (living, refl))
  say_counts Beat g = one refl refl (up_awake e.life g.0.living) (stands _ [] _) refl
  say_counts Speak g = one refl refl (up_awake e.life g.0.living) (stands _ c.given _) refl
  say_counts Drain g = one refl refl (up_awake e.life g.0.living) (stands _ (oldest_in k.queue e.ring) _) refl
  say_counts Hold g = same refl refl (λ living. (living, refl))

  counts : Counts (record { before = k; call = c; result = came_to k c })
  unfolding performed
  counts =
      by_call k c Counts (λ a g. same refl refl (λ living. (living, refl)))
      (λ _. record {
        notes = λ a g. same refl refl (λ living. (living, refl));
        moves = λ m g. move_counts m;
        starts = start_counts;
        hears = λ v g. hear_counts v;
        says = say_counts;
      })

-- ---- over a run

-- the number of the next message is how many left since the connection was opened
abbrev Keeps : End → ℕ → Type 0
Keeps e sent = Living e.life → e.line.numbers.next ≡ sent % 2 ^ 16

module _ (x : Entry) (xs : List Entry) (before : Keeps x.before.end (sent_in_connection xs)) where
  keeps_count : Counts x → Keeps x.result.outcome.end (sent_in_connection (x ∷ xs))
  unfolding sent_in_connection
  keeps_count (anew begins none' zero') living = rw begins zero'
  keeps_count (one goes_on says alive standing next) living =
      rw (goes_on, says) (next ∙ ap (λ (n : ℕ). (n + 1) % 2 ^ 16) (before alive) ∙ mod-add-mod (sent_in_connection xs) (2 ^ 16) 1)
  keeps_count (same goes_on none' kept) living =
      let k = kept living in
      let nought : sent_in_connection xs + leaving x ≡ sent_in_connection xs = omega arith in
      rw (goes_on, nought) (k.1 ∙ before k.0)

  stands_count : Counts x → leaving x ≡ 1 → Stands x.result.out (sent_in_connection xs) x.call.at
  stands_count (anew begins none' zero') says = let z : ◌≡◌ {A = ℕ} 0 1 = sym none' ∙ says in absurd (omega arith)
  stands_count (one goes_on one' alive standing next) says =
      (standing.0 ∙ ap (λ (n : ℕ). n % 2 ^ 16) (before alive) ∙ mod-mod (sent_in_connection xs) (2 ^ 16), standing.1)
  stands_count (same goes_on none' kept) says = let z : ◌≡◌ {A = ℕ} 0 1 = sym none' ∙ says in absurd (omega arith)

next_counts : (m : Making) (cs : List Call) → Keeps (after m cs).end (sent_in_connection (history m cs))
unfolding after history
next_counts m [] = λ living. absurd (living refl)
next_counts m (c ∷ cs) = keeps_count (entry_of m cs c) (history m cs) (next_counts m cs) (counts (after m cs) c)

pub numbering : Numbering
numbering m cs c says = stands_count (entry_of m cs c) (history m cs) (next_counts m cs) (counts (after m cs) c) says
