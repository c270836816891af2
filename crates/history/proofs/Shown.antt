-- What one event shows of an end, as far as failures, reports and kind 6 go.
use Prim.Native.Nat.{ℕ, ◌+◌, ◌≤◌, ◌<◌}
use native.Mathlib.Omega.{arith}
use mathlib.Core.Bool.{Bool, true, false, cond}
use mathlib.Core.List.{List}
use mathlib.Core.Path.{◌≡◌, refl, sym, ap, ap₂, subst, ◌∙◌}
use borrow.Author.Tests.{lt-leb}
use Rattle.wire.proofs.Tests.{by_test}
use Rattle.rules.specs.Answers.{Leaving, number_of, leaves_of}
use Rattle.rules.specs.Answers.Leaving.{error_report}
use Rattle.rules.specs.Ends.{no_flags, error_flag, up_flag, was_up}
use Rattle.rules.specs.State.{is_up}
use Rattle.rules.specs.Talking.{delivered_answer}
use Rattle.rules.specs.declared.answer.Answer.{Answer}
use Rattle.rules.specs.declared.answer.Answer.TheVariants.{Handled}
use Rattle.rules.specs.declared.act.Event.{Event}
use Rattle.rules.specs.declared.act.Event.TheVariants.{Message as message}
use Rattle.rules.specs.declared.effect.Flags.{Flags}
use Rattle.rules.specs.declared.effect.Front.{Front}
use Rattle.rules.specs.declared.effect.Front.TheVariants.{Nothing}
use Rattle.rules.specs.declared.state.Life.{Life}
use Rattle.rules.specs.declared.state.Life.TheVariants.{Idle, Up}
use Rattle.run.specs.Run.{Entry}
use Rattle.run.specs.Events.{is_yes, is_delivery, is_datum_at}
use Rattle.run.proofs.Brought.{delivered_yes}
use Rattle.run.proofs.Choices.{never, same_false}
use Rattle.history.specs.Seen.{Seen, seen_of, number_in, counted, up_after}
use Rattle.history.specs.Failures.{is_error_report, failures_after, failures_of}
use Rattle.history.specs.Reports.{is_of_up, is_reported_by, is_reported}
use Rattle.history.specs.Release.{is_released_by, is_released}
use Rattle.history.specs.LifeSigns.{speaks, begins_anew, kind6_after, is_busy}

-- ---- what is to be shown

-- what is seen of an event; whether the end was Up, and its life then; and before and after the event its failures and its mark, and E
pub record Snap : Type 0 where
  pub seen : Seen
  pub was : Bool
  pub life : Life
  pub failures : ℕ
  pub failures' : ℕ
  pub busy : Bool
  pub busy' : Bool
  pub errors : ℕ

abbrev pub snap : Seen → Bool → Life → ℕ → ℕ → Bool → Bool → ℕ → Snap
snap x was l f f' s s' E =
    record { seen = x; was = was; life = l; failures = f; failures' = f'; busy = s; busy' = s'; errors = E }

abbrev pub snap_of : Entry → Snap
snap_of x =
    let e = x.before.end in
    let f = x.result.outcome.end in
    snap (seen_of x) (was_up e) f.life e.line.failures f.line.failures e.line.busy f.line.busy e.settings.errors

-- the mark of an end, where g kind 6 have left
abbrev pub Marks : Bool → Bool → ℕ → Type 0
Marks mark up g = (mark ≡ is_busy up g) × (g ≤ 1)

pub record Shown (s : Snap) : Type 0 where
  -- up and down
  pub rise : s.seen.flags.up ≡ true → s.was ≡ false
  pub fall : s.seen.flags.down ≡ true → s.was ≡ true
  pub stands : up_after s.seen.flags s.was ≡ is_up s.life
  -- answers, errors and data
  pub answers : is_of_up (number_in s.seen) ≡ true → s.was ≡ true
  pub complains : s.seen.flags.error ≡ true → s.was ≡ true
  pub reported : s.seen.flags.error ≡ is_reported s.seen.answer
  pub hands : is_datum_at s.seen.front ≡ true → is_delivery s.was s.seen.event (number_in s.seen) ≡ true
  -- release
  pub released : s.seen.flags.release ≡ is_released s.seen.answer s.failures s.errors
  pub rests : s.seen.flags.release ≡ true → (s.life ≡ Idle) × (s.seen.flags.down ≡ s.was)
  -- failures
  pub counts : (g : ℕ) → s.failures ≡ failures_of s.was g → s.failures' ≡ failures_of (is_up s.life) (failures_after s.seen s.was g)
  pub below : s.failures < s.errors → s.failures' < s.errors
  -- kind 6
  pub speaking : speaks s.seen ≡ true → (s.was ≡ true) × (is_up s.life ≡ true)
  pub marks : (g : ℕ) → Marks s.busy s.was g → Marks s.busy' (is_up s.life) (kind6_after s.seen g)

-- ---- what is seen

abbrev pub sight : Event → Answer → Flags → Front → List ℕ → Seen
sight event a flags front out = record { event = event; answer = a; flags = flags; front = front; out = out }

abbrev quietly : Event → Answer → Front → List ℕ → Seen
quietly event a front out = sight event a no_flags front out

abbrev cleared : Event → Answer → Bool → Bool → Bool → Bool → Bool → List ℕ → Seen
cleared event a ask accept error release down out =
    sight event a (record { ask = ask; accept = accept; up = false; error = error; release = release; down = down }) Nothing out

abbrev risen : Front → List ℕ → Seen
risen front out = sight message Handled up_flag front out

abbrev judged : Answer → Bool → Front → List ℕ → Seen
judged a error front out = sight message a (error_flag error) front out

-- ---- the mark

few : (b : Bool) (g : ℕ) → g ≤ 1 → cond b 0 g + 0 ≤ 1
few true g less = omega arith
few false g less = omega arith

-- no kind 6 leaves an end that is not up then
low : (x : Seen) (g : ℕ) → speaks x ≡ false → g ≤ 1 → Marks false false (kind6_after x g)
low x g silent less = (refl, subst (λ (t : Bool). cond (begins_anew x) 0 g + counted t ≤ 1) (sym silent) (few (begins_anew x) g less))

-- nothing begins, and no kind 6 leaves
pub marks_on : (x : Seen) (mark up : Bool) → speaks x ≡ false → (up ≡ true → begins_anew x ≡ false) → (g : ℕ) → Marks mark up g
    → Marks mark up (kind6_after x g)
marks_on x mark true silent goes_on g m =
    let same : kind6_after x g ≡ g = ap₂ (λ (b s : Bool). cond b 0 g + counted s) (goes_on refl) silent ∙ (omega arith) in
    subst (Marks mark true) (sym same) m
marks_on x mark false silent goes_on g m =
    subst (λ (t : Bool). Marks t false (kind6_after x g)) (sym m.0) (low x g silent m.1)

-- ---- an end that keeps its failures, with no report

-- an answer that leaves no error and not down
abbrev pub Calm : Leaving → Type 0
Calm x = (is_reported_by x ≡ false) × (is_error_report x ≡ false) × ((at_limit : Bool) → is_released_by x at_limit ≡ false)

module _ {event : Event} {a : Answer} {front : Front} {out : List ℕ} {l : Life} {was : Bool} {f : ℕ} {s s' : Bool} {E : ℕ} where
  pub keeps : is_up l ≡ was → Calm (leaves_of a) → is_of_up (number_of a) ≡ false → is_delivery was event (number_of a) ≡ false → is_datum_at front ≡ false
      → (speaks (quietly event a front out) ≡ true → was ≡ true) → ((g : ℕ) → Marks s was g → Marks s' was (kind6_after (quietly event a front out) g))
      → Shown (snap (quietly event a front out) was l f f s s' E)
  keeps same calm any unheard none' up mark =
      record {
        rise = never _ refl;
        fall = never _ refl;
        stands = sym same;
        answers = never _ any;
        complains = never _ refl;
        reported = sym calm.0;
        hands = never _ none';
        released = sym (calm.2 _);
        rests = never _ refl;
        counts = λ g is. is ∙ ap₂ failures_of (sym same) (goes_on g);
        below = λ less. less;
        speaking = λ is. (up is, same ∙ up is);
        marks = λ g m. subst (λ (t : Bool). Marks s' t (kind6_after (quietly event a front out) g)) (sym same) (mark g m);
      }
    where
      goes_on : (g : ℕ) → g ≡ failures_after (quietly event a front out) was g
      goes_on g = rw (unheard, calm.1) (omega arith)

-- ---- an end that is cleared: its connection ends, or a new one begins

module _ {event : Event} {a : Answer} {ask accept error release : Bool} {out : List ℕ} {l : Life} {was : Bool} {f : ℕ} {s : Bool} {E : ℕ} where
  pub clears : is_up l ≡ false → (is_of_up (number_of a) ≡ true → was ≡ true) → (error ≡ true → was ≡ true) → error ≡ is_reported a
      → release ≡ is_released a f E → (release ≡ true → l ≡ Idle)
      → Shown (snap (cleared event a ask accept error release was out) was l f 0 s false E)
  clears down any why report gone idle =
      record {
        rise = never _ refl;
        fall = λ is. is;
        stands = same_false was ∙ sym down;
        answers = any;
        complains = why;
        reported = report;
        hands = never _ refl;
        released = gone;
        rests = λ is. (idle is, refl);
        counts = λ g is. ap (λ (t : Bool). failures_of t (failures_after (cleared event a ask accept error release was out) was g)) (sym down);
        below = λ less. omega arith;
        speaking = never _ refl;
        marks = λ g m. let x = cleared event a ask accept error release was out in
            subst (λ (t : Bool). Marks false t (kind6_after x g)) (sym down) (low x g refl m.1);
      }

-- ---- an end that comes Up

module _ {front : Front} {out : List ℕ} {f : ℕ} {s : Bool} {E : ℕ} where
  pub rises : is_datum_at front ≡ false → speaks (risen front out) ≡ false
      → Shown (snap (risen front out) false Up f 0 s false E)
  rises none' silent =
      record {
        rise = λ is. refl;
        fall = λ is. is;
        stands = refl;
        answers = λ is. is;
        complains = λ is. is;
        reported = refl;
        hands = never _ none';
        released = refl;
        rests = never _ refl;
        counts = λ g is. refl;
        below = λ less. omega arith;
        speaking = never _ silent;
        marks = λ g m. subst (λ (t : Bool). Marks false true (0 + counted t)) (sym silent) (refl, omega arith);
      }

-- ---- an end that judges a message while Up

module _ {gap : Bool} {front : Front} {out : List ℕ} {f : ℕ} {s : Bool} {E : ℕ} where
  pub delivers : speaks (judged (delivered_answer gap) gap front out) ≡ false
      → Shown (snap (judged (delivered_answer gap) gap front out) true Up f 0 s s E)
  delivers silent =
      record {
        rise = never _ refl;
        fall = never _ refl;
        stands = refl;
        answers = λ is. refl;
        complains = λ is. refl;
        reported = by_test (λ (a : Answer). gap ≡ is_reported a) gap (λ is. is) (λ is. is);
        hands = λ is. delivered_yes gap;
        released = by_test (λ (a : Answer). false ≡ is_released a f E) gap (λ _. refl) (λ _. refl);
        rests = never _ refl;
        counts = λ g is. rw (delivered_yes gap);
        below = λ less. omega arith;
        speaking = never _ silent;
        marks = marks_on (judged (delivered_answer gap) gap front out) s true silent (λ _. refl);
      }

module _ {a : Answer} {out : List ℕ} {f : ℕ} {s : Bool} {E : ℕ} where
  pub fails : leaves_of a ≡ error_report → is_yes (number_of a) ≡ false → f + 1 < E
      → Shown (snap (judged a true Nothing out) true Up f (f + 1) s s E)
  fails leaves refused few' =
      record {
        rise = never _ refl;
        fall = never _ refl;
        stands = refl;
        answers = λ is. refl;
        complains = λ is. refl;
        reported = rw leaves refl;
        hands = never _ refl;
        released = rw leaves (sym (lt-leb E _ few'));
        rests = never _ refl;
        counts = λ g is. rw (refused, leaves) (omega arith);
        below = λ less. few';
        speaking = never _ refl;
        marks = marks_on (judged a true Nothing out) s true refl (λ _. refl);
      }
