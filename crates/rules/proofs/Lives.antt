-- Laws of lives: which is which.
use Prim.Native.Nat.{ℕ}
use native.Mathlib.Omega.{arith}
use mathlib.Core.Bool.{true, false, false≢true}
use mathlib.Core.List.{[], ◌∷◌}
use mathlib.Core.Logic.{◌⊎◌, inl, inr}
use mathlib.Core.Path.{◌≡◌, refl, sym, ap, ◌∙◌}
use borrow.Author.Tests.{eqb-false}
use lib.Dec.{eqb}
use lib.ListN.{get_or}
use Rattle.rules.specs.State.{phase_of, is_up, awaited_by}
use Rattle.rules.specs.declared.state.Role.TheVariants.{Initiator, Called}
use Rattle.rules.specs.declared.state.Life.{Life}
use Rattle.rules.specs.declared.state.Life.TheVariants.{Idle, Calling, Opening, Settling, Greeted, Answering, Closing, Up}
use Rattle.rules.specs.declared.state.Phase.{Phase}
use Rattle.rules.specs.declared.state.Phase.TheVariants.{Idle as resting, Starting as starting, Up as upright}

abbrev pub code : Life → ℕ
code Idle = 0
code Calling = 1
code Opening = 2
code Settling = 3
code Greeted = 4
code Answering = 5
code Closing = 6
code Up = 7

-- two lives that are told apart are not one
pub apart : (l m : Life) → eqb (code l) (code m) ≡ false → l ≡ m → ⊥
apart l m t same = eqb-false (code l) (code m) t (ap code same)

pub apart_roles : Called ≡ Initiator → ⊥
apart_roles is = let z : ◌≡◌ {A = ℕ} 0 1 = cc in omega arith

-- the life that waits for a kind
abbrev pub waiter : ℕ → Life
waiter kind = get_or (Idle ∷ Greeted ∷ Opening ∷ Answering ∷ Settling ∷ Closing ∷ Up ∷ []) kind Idle

pub waiter_is : (l : Life) → (awaited_by l ≡ 0 → ⊥) → l ≡ waiter (awaited_by l)
waiter_is Idle some = absurd (some refl)
waiter_is Calling some = absurd (some refl)
waiter_is Opening some = refl
waiter_is Settling some = refl
waiter_is Greeted some = refl
waiter_is Answering some = refl
waiter_is Closing some = refl
waiter_is Up some = refl

-- ---- phases

abbrev pub code_of_phase : Phase → ℕ
code_of_phase resting = 0
code_of_phase starting = 1
code_of_phase upright = 2

-- a life is of one phase
pub of_phase : (l m : Life) (p : Phase) → phase_of l ≡ p → eqb (code_of_phase (phase_of m)) (code_of_phase p) ≡ false → l ≡ m → ⊥
of_phase l m p is t same =
    eqb-false (code_of_phase (phase_of m)) (code_of_phase p) t (ap (λ (x : Life). code_of_phase (phase_of x)) (sym same) ∙ ap code_of_phase is)

pub starting_awake : (l : Life) → phase_of l ≡ starting → l ≡ Idle → ⊥
starting_awake l is = of_phase l Idle starting is refl

pub starting_low : (l : Life) → phase_of l ≡ starting → l ≡ Up → ⊥
starting_low l is = of_phase l Up starting is refl

pub up_awake : (l : Life) → l ≡ Up → l ≡ Idle → ⊥
up_awake l is idle = apart Up Idle refl (sym is ∙ idle)

-- an end that is not Idle is in a start or Up
pub waking : (l : Life) → (l ≡ Idle → ⊥) → (phase_of l ≡ starting) ⊎ (l ≡ Up)
waking Idle alive = absurd (alive refl)
waking Calling alive = inl refl
waking Opening alive = inl refl
waking Settling alive = inl refl
waking Greeted alive = inl refl
waking Answering alive = inl refl
waking Closing alive = inl refl
waking Up alive = inr refl

pub was_up_lem : (l : Life) → l ≡ Up → is_up l ≡ true
was_up_lem l is = ap is_up is

pub only_up : (l : Life) → is_up l ≡ true → l ≡ Up
only_up Idle is = absurd (false≢true is)
only_up Calling is = absurd (false≢true is)
only_up Opening is = absurd (false≢true is)
only_up Settling is = absurd (false≢true is)
only_up Greeted is = absurd (false≢true is)
only_up Answering is = absurd (false≢true is)
only_up Closing is = absurd (false≢true is)
only_up Up is = refl

pub only_idle : (l : Life) → phase_of l ≡ resting → l ≡ Idle
only_idle Idle is = refl
only_idle Calling is = absurd (of_phase Calling Calling resting is refl refl)
only_idle Opening is = absurd (of_phase Opening Opening resting is refl refl)
only_idle Settling is = absurd (of_phase Settling Settling resting is refl refl)
only_idle Greeted is = absurd (of_phase Greeted Greeted resting is refl refl)
only_idle Answering is = absurd (of_phase Answering Answering resting is refl refl)
only_idle Closing is = absurd (of_phase Closing Closing resting is refl refl)
only_idle Up is = absurd (of_phase Up Up resting is refl refl)
