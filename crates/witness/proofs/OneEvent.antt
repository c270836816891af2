-- The hypotheses, computed; what follows, by the claims.
use Rattle.std.specs.Prelude.{Err, Ok}
use Prim.Native.Nat.{ℕ}
use mathlib.Core.List.{List, [], ◌∷◌, ◌++◌}
use mathlib.Core.Path.{◌≡◌, refl, subst}
use lib.ListN.{length}
use Rattle.judge.specs.Difference.{diff}
use Rattle.queue.specs.Ring.{size, entries, slot_bytes, slot_data}
use Rattle.wire.specs.Message.{parse, encode, header_bytes}
use Rattle.rules.proofs.Lives.{apart}
use Rattle.rules.specs.Decide.{decide_of, on_event}
use Rattle.rules.specs.declared.act.Event.TheVariants.{Tick}
use Rattle.rules.specs.declared.answer.Answer.TheVariants.{OutOfRange}
use Rattle.rules.specs.declared.state.Role.TheVariants.{Initiator}
use Rattle.rules.specs.declared.state.Life.TheVariants.{Idle, Up}
use Rattle.rules.proofs.Claims.{one_result, one_end, fresh_holds_nothing, step_holds_nothing, queue_moves, sent_reads_back}
use Rattle.rules.proofs.Leaves.{leaves_as_the_table_says}
use Rattle.rules.specs.Answers.{leaves_of, Leaving}
use Rattle.rules.specs.Answers.Leaving.{everything, new_reading, down, error_report, delivered}
use Rattle.rules.specs.Leaves.{Left}
use Rattle.rules.specs.Claims.{StepPromise, answer_of, IdleHoldsNothing}
use Rattle.rules.specs.Perform.{performed}
use Rattle.rules.specs.Step.{effect_of, stepped}
use Rattle.run.specs.Run.{Call, came_to, after}
use Rattle.run.proofs.Lasting.{run_lasts}
use Rattle.witness.specs.Ends.{settings, initiator, reading, roomy, tick, cramped_tick, user, comes, bare, life_sign}
use Rattle.witness.specs.Table.{Row, calls_in, left}
use Rattle.witness.specs.Initiator.{until_full, until_heard, gapped, until_late, again, until_down, until_asked, wrong_echo}
use Rattle.witness.specs.Answers.{unsettled}
use Rattle.witness.specs.OneEvent.{fresh, asked, Leaves, Moves, seven_left, eight_left, AskIsPromised, EndsArePromised, AllStays, ReadingAlone, GoesDown, SentIsRead, FreshIsBlank, FallenIsBlank, EachMove}

-- ---- the promises

ask_comes : StepPromise fresh Tick (reading 100) [] roomy initiator.queue asked
unfolding stepped effect_of performed decide_of on_event diff
ask_comes = refl

pub ask_is_promised : AskIsPromised
ask_is_promised =
    (ask_comes, λ r promise. one_result fresh Tick (reading 100) [] roomy initiator.queue r asked promise ask_comes)

pub ends_are_promised : EndsArePromised
ends_are_promised = (
  (refl, λ n promise. one_end Initiator (reading 100) settings n (Ok fresh) promise refl),
  (refl, λ n promise. one_end Initiator (reading 100) unsettled n (Err OutOfRange) promise refl),
)

-- ---- what the answers leave

-- what an event left, by the claim, where its answer is known
left_by : (xs : List Row) (c : Call) (n : ℕ) (x : Leaving) → let r = came_to (left initiator xs) c in
    answer_of r ≡ n → leaves_of r.outcome.answer ≡ x → Leaves xs c n x
left_by xs c n x is so =
    let k = left initiator xs in (
      is,
      so,
      subst (λ (y : Leaving). Left y k.end c.at c.given c.out k.queue (came_to k c)) so
          (leaves_as_the_table_says k.end c.event c.at c.given c.out k.queue),
    )

pub all_stays : AllStays
unfolding after stepped effect_of performed decide_of on_event parse encode header_bytes slot_bytes slot_data diff
all_stays = (left_by until_full (tick 127) 2 everything refl refl, left_by until_full (cramped_tick 150) 14 everything refl refl)

pub reading_alone : ReadingAlone
unfolding after stepped effect_of performed decide_of on_event parse encode header_bytes slot_bytes slot_data diff
reading_alone = (
  left_by until_down (comes 198 (life_sign 8 90 115 66)) 3 new_reading refl refl,
  left_by until_full (user 130 []) 4 new_reading refl refl,
  left_by until_full (user 130 (17 ∷ [])) 5 new_reading refl refl,
  left_by until_full (comes 130 (1 ∷ 2 ∷ 3 ∷ [])) 6 new_reading refl refl,
  left_by until_full (comes 130 (bare 1 2 70 0 0)) 7 new_reading refl refl,
)

pub goes_down : GoesDown
unfolding after stepped effect_of performed decide_of on_event parse encode header_bytes slot_bytes slot_data diff
goes_down = (
  left_by until_asked wrong_echo 8 down refl refl,
  left_by until_late again 9 error_report refl refl,
  left_by until_heard gapped 13 delivered refl refl,
)

-- ---- an Idle end

pub fresh_is_blank : FreshIsBlank
fresh_is_blank = (refl, refl, fresh_holds_nothing Initiator (reading 100) settings fresh refl refl)

late_holds : IdleHoldsNothing (left initiator until_late).end
unfolding after stepped effect_of performed decide_of on_event parse encode header_bytes slot_bytes slot_data diff
late_holds is = absurd (apart Up Idle refl is)

pub fallen_is_blank : FallenIsBlank
unfolding after stepped effect_of performed decide_of on_event parse encode header_bytes slot_bytes slot_data diff
fallen_is_blank =
    let k = left initiator until_late in (
      refl,
      refl,
      refl,
      late_holds,
      refl,
      step_holds_nothing k.end again.event again.at again.given again.out k.queue late_holds refl,
    )

-- ---- the queue

whole : (xs : List Row) → length (left initiator xs).queue ≡ size
whole xs = (run_lasts initiator (calls_in xs)).2

pub sent_is_read : SentIsRead
unfolding after stepped effect_of performed decide_of on_event parse encode header_bytes slot_bytes slot_data diff
sent_is_read =
    let k = left initiator until_full in
    (whole until_full, refl, sent_reads_back k.end Tick (reading 129) [] roomy k.queue 17 (whole until_full) refl)

moving : (xs : List Row) (c : Call) (old new : List (List ℕ)) → let k = left initiator xs in
    let r = came_to k c in
    entries k.queue k.end.ring ≡ old → entries r.queue r.outcome.end.ring ≡ new → Moves xs c old new
moving xs c old new was is =
    let k = left initiator xs in
    (whole xs, was, is, queue_moves k.end c.event c.at c.given c.out k.queue (whole xs))

pub each_move : EachMove
unfolding after stepped effect_of performed decide_of on_event parse encode header_bytes slot_bytes slot_data diff
each_move = (
  moving until_heard gapped eight_left eight_left refl refl,
  moving until_late (user 197 (17 ∷ [])) seven_left (seven_left ++ ((17 ∷ []) ∷ [])) refl refl,
  moving until_full (tick 129) eight_left seven_left refl refl,
  moving until_late again seven_left [] refl refl,
)
