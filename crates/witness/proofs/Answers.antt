-- Every answer stands in the long run of the initiator.
use Prim.Native.Nat.{ℕ, zero, suc, ◌<◌}
use native.Mathlib.Omega.{arith}
use mathlib.Core.Bool.{Bool, true, false, cond, false≢true}
use mathlib.Core.List.{List, [], ◌∷◌}
use mathlib.Core.Path.{◌≡◌, refl, sym, subst}
use lib.Dec.{eqb}
use borrow.Author.Tests.{eqb-true, eqb-false}
use Rattle.judge.specs.Difference.{diff}
use Rattle.queue.specs.Ring.{slot_bytes, slot_data}
use Rattle.wire.proofs.Tests.{by_test}
use Rattle.wire.specs.Message.{parse, encode, header_bytes}
use Rattle.rules.specs.Decide.{decide_of, on_event}
use Rattle.rules.specs.Claims.{answer_of}
use Rattle.rules.specs.Perform.{performed}
use Rattle.rules.specs.Step.{effect_of, stepped}
use Rattle.run.specs.Run.{Making, Sound, Call, Entry, entry_of, after, history}
use Rattle.witness.specs.Ends.{initiator}
use Rattle.witness.specs.Table.{calls_in}
use Rattle.witness.specs.Initiator.{long_run}
use Rattle.witness.specs.Answers.{IsGiven, EveryAnswer, OneIsGiven}

-- ---- an answer that stands in a history is given

answers_in : ℕ → List Entry → Bool
answers_in n [] = false
answers_in n (x ∷ xs) = cond (eqb (answer_of x.result) n) true (answers_in n xs)

is_given : (m : Making) → Sound m → (n : ℕ) (cs : List Call) → answers_in n (history m cs) ≡ true → IsGiven n
unfolding history answers_in
is_given m sound n [] = λ no'. absurd (false≢true no')
is_given m sound n (c ∷ cs) =
    by_test (λ (b : Bool). b ≡ true → IsGiven n) (eqb (answer_of (entry_of m cs c).result) n)
    (λ is _. record { making = m; sound = sound; before = cs; newest = c; answered = eqb-true _ _ is })
    (λ _ found. is_given m sound n cs found)

-- ---- each number below a bound, by a test

all_below : (ℕ → Bool) → ℕ → Bool
all_below p zero = true
all_below p (suc n) = cond (p n) (all_below p n) false

below : (p : ℕ → Bool) (bound : ℕ) → all_below p bound ≡ true → (n : ℕ) → n < bound → p n ≡ true
unfolding all_below
below p zero = λ all' n less. absurd (omega arith)
below p (suc bound) =
    by_test (λ (b : Bool). b ≡ true → (n : ℕ) → n < suc bound → p n ≡ true) (p bound)
    (λ top all' n less. by_test (λ (b : Bool). p n ≡ true) (eqb n bound) {x = true} {y = false}
    (λ is. subst (λ (k : ℕ). p k ≡ true) (sym (eqb-true n bound is)) top)
    (λ other. let apart : n ≡ bound → ⊥ = eqb-false n bound other in below p bound all' n (omega arith)))
    (λ _ no'. absurd (false≢true no'))

-- 1, or an answer of the long run
stands : ℕ → Bool
stands n = cond (eqb n 1) true (answers_in n (history initiator (calls_in long_run)))

all_stand : all_below stands 15 ≡ true
unfolding all_below stands answers_in history after stepped effect_of performed decide_of on_event parse encode header_bytes slot_bytes slot_data diff
all_stand = refl

pub every_answer : EveryAnswer
unfolding stands
every_answer n small not-1 =
    by_test (λ (b : Bool). b ≡ true → IsGiven n) (eqb n 1)
    (λ is _. absurd (not-1 (eqb-true n 1 is)))
    (λ _ found. is_given initiator (refl, refl) n (calls_in long_run) found)
    (below stands 15 all_stand n (omega arith))

pub one_is_given : OneIsGiven
one_is_given role at = refl
