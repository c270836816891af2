-- The claims of specs/Claims.antt, each proved by going through the acts.
use Rattle.std.specs.Prelude.{Err, Ok, Some}
use Prim.Native.Nat.{ℕ}
use native.Mathlib.Omega.{arith}
use mathlib.Core.Bool.{Bool, true, false}
use mathlib.Core.List.{List, [], ◌∷◌, ◌++◌}
use mathlib.Core.Logic.{◌⊎◌, inl, inr}
use mathlib.Core.Path.{◌≡◌, refl, sym, ap, subst, ◌∙◌}
use lib.ListN.{length, get_or, take, drop}
use lib.Seq.{take_at}
use Rattle.judge.specs.declared.clock.Reading.{Reading}
use Rattle.queue.proofs.Claims.{empty_has_none, oldest_sendable}
use Rattle.queue.specs.Ring.{size, entries, oldest_in}
use Rattle.wire.proofs.Carrying.{is_carried}
use Rattle.wire.proofs.Inverse.{encode_parses}
use Rattle.wire.proofs.Tests.{by_test}
use Rattle.wire.specs.Message.{encode, parse}
use Rattle.wire.specs.Writing.{carries}
use Rattle.wire.specs.declared.message.Body.{Body}
use Rattle.wire.specs.declared.message.Message.{Message}
use Rattle.rules.specs.Answers.{number_of}
use Rattle.rules.specs.Decide.{decide_of}
use Rattle.rules.specs.Given.{Given}
use Rattle.rules.specs.Make.{Made, fresh_end}
use Rattle.rules.specs.Perform.{performed}
use Rattle.rules.specs.Talking.{delivering}
use Rattle.rules.specs.Settings.{in_range_of}
use Rattle.rules.specs.Step.{effect_of, stepped}
use Rattle.rules.specs.Claims.{OneResult, OneEnd, OneAnswer, GivenExactlyWhen, IdleHoldsNothing, FreshHoldsNothing, StepHoldsNothing, FrontIs, OneAtTheFront, QueueMoves, SentReadsBack}
use Rattle.rules.specs.Place.{out_after, queue_after, front_after, Ready}
use Rattle.rules.specs.declared.effect.Front.{Front}
use Rattle.rules.specs.declared.effect.Front.TheVariants.{Nothing as none, Message as message}
use Rattle.rules.specs.declared.answer.Answer.{Answer}
use Rattle.rules.specs.declared.answer.Answer.TheVariants.{Handled, OutOfRange, ClockBack, NoRule, BadLength, QueueFull, Malformed, NotAwaited, StartFailed, Old, Lost, Late, Silent, Gap, NoRoom}
use Rattle.rules.specs.declared.act.Event.{Event}
use Rattle.rules.specs.declared.act.Act.{Act}
use Rattle.rules.specs.declared.act.Act.TheVariants.{Stay, Move, Start, Hear, Say}
use Rattle.rules.specs.declared.act.ConnectionMove.{ConnectionMove}
use Rattle.rules.specs.declared.act.ConnectionMove.TheVariants.{Ask, Accept, Lose, Fall}
use Rattle.rules.specs.declared.act.Exchange.{Exchange}
use Rattle.rules.specs.declared.act.Exchange.TheVariants.{Begin, Greet, Measure, Estimate, Finish, Rise}
use Rattle.rules.specs.declared.act.Verdict.{Verdict}
use Rattle.rules.specs.declared.act.Verdict.TheVariants.{Deliver, Report}
use Rattle.rules.specs.declared.act.Speech.{Speech}
use Rattle.rules.specs.declared.act.Speech.TheVariants.{Quiet, Beat, Speak, Drain, Hold}
use Rattle.rules.specs.declared.settings.Settings.{Settings}
use Rattle.rules.specs.declared.state.Role.{Role}
use Rattle.rules.specs.declared.state.Life.TheVariants.{Idle, Calling, Opening, Settling, Greeted, Answering, Closing, Up}
use Rattle.rules.specs.declared.state.End.{End}
use Rattle.rules.specs.declared.effect.Placing.{Placing}
use Rattle.rules.specs.declared.effect.Placing.TheVariants.{Nothing, Send, SendUser, SendOldest, Deliver as Hand, Store}
use Rattle.rules.proofs.Acts.{EachTaken, by_act}
use Rattle.rules.proofs.Answered.{failure_comes}
use Rattle.rules.proofs.Forced.{forced}
use Rattle.rules.proofs.Given.{has_reason}
use Rattle.rules.proofs.Grounds.{VerdictGrounds, SpeechGrounds}
use Rattle.rules.proofs.Lives.{apart, up_awake}
use Rattle.rules.proofs.Queued.{holds_last, drains_first}
use Rattle.rules.proofs.Readiness.{effect_ready}

-- ---- no second outcome fits

pub one_result : OneResult
one_result e event at given out q r s p p' = p ∙ sym p'

pub one_end : OneEnd
one_end role at settings m n p p' = p ∙ sym p'

-- ---- the numbers of answers

answer_at : ℕ → Answer
answer_at n =
    get_or (Handled ∷ OutOfRange ∷ ClockBack ∷ NoRule ∷ BadLength ∷ QueueFull ∷ Malformed ∷ NotAwaited ∷ StartFailed ∷ Old ∷ Lost ∷ Late ∷ Silent
    ∷ Gap
    ∷ NoRoom
    ∷ []) n Handled

numbered : (a : Answer) → answer_at (number_of a) ≡ a
unfolding answer_at
numbered Handled = refl
numbered OutOfRange = refl
numbered ClockBack = refl
numbered NoRule = refl
numbered BadLength = refl
numbered QueueFull = refl
numbered Malformed = refl
numbered NotAwaited = refl
numbered StartFailed = refl
numbered Old = refl
numbered Lost = refl
numbered Late = refl
numbered Silent = refl
numbered Gap = refl
numbered NoRoom = refl

pub one_answer : OneAnswer
one_answer a c same = sym (numbered a) ∙ ap answer_at same ∙ numbered c

-- ---- given exactly when

pub given_exactly_when : GivenExactlyWhen
unfolding stepped effect_of
given_exactly_when e event at b out q a =
    (λ is. subst (Given e event at b (length out)) is (has_reason e event at b (length out)), forced e event at b (length out) a)

-- ---- an Idle end holds nothing of a connection

made_fresh : (role : Role) (at : Reading) (settings : Settings) (e : End) → ◌≡◌ {A = Made} (Ok (fresh_end role at settings)) (Ok e) → IdleHoldsNothing e
made_fresh role at settings e is = let q : fresh_end role at settings ≡ e = cc in subst IdleHoldsNothing q (λ idle. (refl, refl))

made_none : (a : Answer) (e : End) → ◌≡◌ {A = Made} (Err a) (Ok e) → IdleHoldsNothing e
made_none a e is = let z : ◌≡◌ {A = ℕ} 0 1 = cc in absurd (omega arith)

pub fresh_holds_nothing : FreshHoldsNothing
fresh_holds_nothing role at settings =
    by_test (λ (m : Made). (e : End) → m ≡ Ok e → IdleHoldsNothing e) (in_range_of settings) (λ t. made_fresh role at settings) (λ t. made_none _)

module _ (e : End) (event : Event) (at : Reading) (b : List ℕ) (before : IdleHoldsNothing e) where
  abbrev Holds : Act → Type 0
  Holds act = IdleHoldsNothing (performed e act at).end

  move_holds : (m : ConnectionMove) → Holds (Move m)
  unfolding performed
  move_holds Ask idle = absurd (apart Calling Idle refl idle)
  move_holds Accept idle = absurd (apart Greeted Idle refl idle)
  move_holds Lose idle = (refl, refl)
  move_holds (Fall answer error) idle = (refl, refl)

  start_holds : (x : Exchange) → Holds (Start x)
  unfolding performed
  start_holds (Begin goes) idle = absurd (apart Opening Idle refl idle)
  start_holds (Greet s) idle = absurd (apart Answering Idle refl idle)
  start_holds (Measure m) idle = absurd (apart Settling Idle refl idle)
  start_holds (Estimate m) idle = absurd (apart Closing Idle refl idle)
  start_holds (Finish s) idle = absurd (apart Up Idle refl idle)
  start_holds (Rise h) idle = absurd (apart Up Idle refl idle)

  hear_holds : (v : Verdict) → VerdictGrounds e event at b v → Holds (Hear v)
  unfolding performed
  hear_holds (Deliver d) g idle = absurd (up_awake e.life g.0.living idle)
  hear_holds (Report answer failures) g idle = absurd (up_awake e.life (failure_comes e event at b answer g.0).2 idle)

  say_holds : (s : Speech) → SpeechGrounds e event at b s → Holds (Say s)
  unfolding performed
  say_holds Quiet g idle = absurd (up_awake e.life g.0.living idle)
  say_holds Beat g idle = absurd (up_awake e.life g.0.living idle)
  say_holds Speak g idle = absurd (up_awake e.life g.0.living idle)
  say_holds Drain g idle = absurd (up_awake e.life g.0.living idle)
  say_holds Hold g idle = absurd (up_awake e.life g.0.living idle)

  stay_holds : (a : Answer) → Holds (Stay a)
  unfolding performed
  stay_holds a = before

  each_holds : EachTaken e event at b Holds
  unfolding performed
  each_holds =
      record {
        notes = λ a g. before;
        moves = λ m g. move_holds m;
        starts = λ x g. start_holds x;
        hears = hear_holds;
        says = say_holds;
      }

pub step_holds_nothing : StepHoldsNothing
unfolding stepped effect_of
step_holds_nothing e event at b out q before =
    by_act e event at b (length out) (Holds e event at b before) (λ a g. stay_holds e event at b before a) (λ t. each_holds e event at b before)

-- ---- at most one message or datum leaves

placing_front : (p : Placing) (b q out : List ℕ) → FrontIs (front_after p b q) b out (out_after p b q out)
placing_front Nothing b q out = refl
placing_front (Send m) b q out = (m, [], refl, refl)
placing_front (SendUser m) b q out = (m, b, refl, refl)
placing_front (SendOldest m r) b q out = (m, oldest_in q r, refl, refl)
placing_front Hand b q out = (refl, refl)
placing_front (Store r) b q out = refl

pub one_at_the_front : OneAtTheFront
unfolding stepped effect_of
one_at_the_front e event at b out q = placing_front (performed e (decide_of e event at b (length out)) at).placing b q out

-- ---- the queue's list

module _ (e : End) (event : Event) (at : Reading) (b q : List ℕ) (whole : length q ≡ size) where
  abbrev MovesTo : List (List ℕ) → Type 0
  MovesTo after =
      (after ≡ entries q e.ring) ⊎ ((after ≡ entries q e.ring ++ (b ∷ [])) ⊎ (((d : List ℕ) × (entries q e.ring ≡ d ∷ after)) ⊎ (after ≡ [])))

  abbrev Moves : Act → Type 0
  Moves act = MovesTo (entries (queue_after (performed e act at).placing b q) (performed e act at).end.ring)

  move_moves : (m : ConnectionMove) → Moves (Move m)
  unfolding performed
  move_moves Ask = inr (inr (inr (empty_has_none q)))
  move_moves Accept = inr (inr (inr (empty_has_none q)))
  move_moves Lose = inr (inr (inr (empty_has_none q)))
  move_moves (Fall answer error) = inr (inr (inr (empty_has_none q)))

  start_moves : (x : Exchange) → Moves (Start x)
  unfolding performed
  start_moves (Begin goes) = inl refl
  start_moves (Greet s) = inl refl
  start_moves (Measure m) = inl refl
  start_moves (Estimate m) = inl refl
  start_moves (Finish s) = inl refl
  start_moves (Rise h) = inl refl

  delivery_moves : (train : Bool) → MovesTo (entries (queue_after (delivering train) b q) e.ring)
  delivery_moves true = inl refl
  delivery_moves false = inl refl

  hear_moves : (v : Verdict) → Moves (Hear v)
  unfolding performed
  hear_moves (Deliver d) = delivery_moves d.train
  hear_moves (Report answer failures) = inl refl

  say_moves : (s : Speech) → SpeechGrounds e event at b s → Moves (Say s)
  unfolding performed
  say_moves Quiet g = inl refl
  say_moves Beat g = inl refl
  say_moves Speak g = inl refl
  say_moves Drain g = inr (inr (inl (oldest_in q e.ring, drains_first e event at b q g)))
  say_moves Hold g = inr (inl (holds_last e event at b q whole g))

  stay_moves : (a : Answer) → Moves (Stay a)
  unfolding performed
  stay_moves a = inl refl

  each_moves : EachTaken e event at b Moves
  unfolding performed
  each_moves =
      record {
        notes = λ a g. inl refl;
        moves = λ m g. move_moves m;
        starts = λ x g. start_moves x;
        hears = λ v g. hear_moves v;
        says = say_moves;
      }

pub queue_moves : QueueMoves
unfolding stepped effect_of
queue_moves e event at b out q whole =
    by_act e event at b (length out) (Moves e event at b q whole) (λ a g. stay_moves e event at b q whole a) (λ t. each_moves e event at b q whole)

-- ---- what is sent reads back

-- a message over the front, taken off again
front_reads : (m : Message) (d out : List ℕ) (n : ℕ) → carries m.body d ≡ true → message (length (encode m d)) ≡ message n
    → (x : Message) × (parse (take n (encode m d ++ drop (length (encode m d)) out)) ≡ Some x)
front_reads m d out n ok is =
    let long : length (encode m d) ≡ n = cc in
    let x = encode_parses m.header m.body d ok in
    (x.0, ap parse (take_at (encode m d) (drop (length (encode m d)) out) n long) ∙ x.1)

nothing_reads : {A : Type 0} (f : Front) (n : ℕ) → f ≡ message n → f ≡ none → A
nothing_reads f n is other = let z : ◌≡◌ {A = ℕ} 0 1 = cc in absurd (omega arith)

placed_reads : (p : Placing) (b q out : List ℕ) (room n : ℕ) → length q ≡ size → Ready p b room → front_after p b q ≡ message n
    → (m : Message) × (parse (take n (out_after p b q out)) ≡ Some m)
placed_reads Nothing b q out room n whole ready is = nothing_reads none n is refl
placed_reads (Send m) b q out room n whole ready is = front_reads m [] out n ready.0 is
placed_reads (SendUser m) b q out room n whole ready is = front_reads m b out n ready.0 is
placed_reads (SendOldest m r) b q out room n whole ready is =
    let good = oldest_sendable q r whole in
    front_reads m (oldest_in q r) out n
    (ap (λ (x : Body). carries x (oldest_in q r)) ready.0 ∙ is_carried (oldest_in q r) good.0 good.1) is
placed_reads Hand b q out room n whole ready is = let z : ◌≡◌ {A = ℕ} 0 1 = cc in absurd (omega arith)
placed_reads (Store r) b q out room n whole ready is = nothing_reads none n is refl

pub sent_reads_back : SentReadsBack
unfolding stepped
sent_reads_back e event at b out q n whole is =
    placed_reads (effect_of e event at b (length out)).placing b q out (length out) n whole (effect_ready e event at b (length out)) is
