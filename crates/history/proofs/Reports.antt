-- The claims of specs/Reports.antt: each event's signs stand in order, so all of them do.
use Prim.Native.Nat.{ℕ}
use mathlib.Core.Bool.{Bool, true, false, cond, not, ◌||◌, ◌&&◌, and-eq-true_iff, false≢true}
use mathlib.Core.List.{List, [], ◌∷◌, ◌++◌, map, map-append}
use mathlib.Core.Path.{◌≡◌, refl, ap, ◌∙◌}
use Rattle.rules.specs.Claims.{answer_of}
use Rattle.rules.specs.Ends.{was_up}
use Rattle.rules.specs.Outputs.{Output, reported, front_output, outputs_of}
use Rattle.rules.specs.Outputs.Output.{ask, accept, up, error, release, down}
use Rattle.rules.specs.State.{is_up}
use Rattle.rules.specs.declared.effect.Front.{Front}
use Rattle.rules.specs.declared.effect.Front.TheVariants.{Nothing, Message, Datum}
use Rattle.run.specs.Run.{Making, Call, after, entry_of, history}
use Rattle.run.specs.Events.{is_acceptance, is_delivery, is_datum_at}
use Rattle.run.proofs.Choices.{never, not-true}
use Rattle.run.proofs.Events.{delivery_is}
use Rattle.history.specs.Seen.{seen, up_at_first, stands_up, number_in}
use Rattle.history.specs.Reports.{Sign, signs_of, trace, may_stand, may_put_out, up_by, up_by_output, in_order, is_of_up, UpAndDownAlternate, UpAsReported, DataOnlyAccepted, ErrorsReported}
use Rattle.history.specs.Reports.Sign.{output}
use Rattle.history.proofs.Shown.{Snap, Shown}
use Rattle.history.proofs.Walk.{shown}

pub up_as_reported : UpAsReported
unfolding stands_up seen after history
up_as_reported m [] = refl
up_as_reported m (c ∷ cs) = rw (up_as_reported m cs) (shown (after m cs) c).stands

-- ---- signs in order

-- whether an end stands up after some signs
unfoldable up_at_last : Bool → List Sign → Bool
up_at_last stands [] = stands
up_at_last stands (s ∷ ss) = up_at_last (up_by stands s) ss

-- signs stand in order, and lead from an end that stands up or not to one that does or not
abbrev Leads : Bool → List Sign → Bool → Type 0
Leads from ss to = (in_order from ss ≡ true) × (up_at_last from ss ≡ to)

joined : (ss ts : List Sign) (from mid to : Bool) → Leads from ss mid → Leads mid ts to → Leads from (ss ++ ts) to
unfolding in_order up_at_last
joined [] ts from mid to one two = rw one.1 two
joined (s ∷ ss) ts from mid to one two =
    let both = (and-eq-true_iff (may_stand from s) (in_order (up_by from s) ss)).0 one.0 in
    let rest = joined ss ts (up_by from s) mid to (both.1, one.1) two in
    ((and-eq-true_iff (may_stand from s) (in_order (up_by from s) (ss ++ ts))).1 (both.0, rest.0), rest.1)

-- ---- the outputs of one event

record Puts (from : Bool) (os : List Output) (to : Bool) : Type 0 where
  signs : Leads from (map output os) to

then : {os ps : List Output} {from mid to : Bool} → Puts from os mid → Puts mid ps to → Puts from (os ++ ps) to
then {os} {ps} {from} {mid} {to} one two =
    record { signs = rw map-append (joined (map output os) (map output ps) from mid to one.signs two.signs) }

report : (it : Bool) (o : Output) (from to : Bool) → (it ≡ true → may_put_out from o ≡ true) → cond it (up_by_output from o) from ≡ to
    → Puts from (reported it o) to
unfolding in_order up_at_last
report true o from to ok is = record { signs = (ap (λ (t : Bool). t && true) (ok refl), is) }
report false o from to ok is = record { signs = (refl, is) }

front : (f : Front) (out : List ℕ) (from : Bool) → (is_datum_at f ≡ true → from ≡ true) → Puts from (front_output f out) from
unfolding in_order up_at_last
front Nothing out from ok = record { signs = (refl, refl) }
front (Message n) out from ok = record { signs = (refl, refl) }
front (Datum n) out from ok = record { signs = (ap (λ (t : Bool). t && true) (ok refl), refl) }

either : (t u : Bool) → cond t u u ≡ u
either true u = refl
either false u = refl

still_up : (t u : Bool) → u ≡ true → cond t true u ≡ true
still_up true u is = refl
still_up false u is = is

-- which of the two reports is looked at first
order : (rises falls was : Bool) → (rises ≡ true → was ≡ false) → (falls ≡ true → was ≡ true)
    → cond falls false (cond rises true was) ≡ cond rises true (cond falls false was)
order true true was low high = never was (low refl) (high refl)
order true false was low high = refl
order false falls was low high = refl

module _ (s : Snap) (so : Shown s) where
  abbrev mid : Bool
  mid = cond s.seen.flags.up true s.was

  puts : Puts s.was (outputs_of s.seen.flags s.seen.front s.seen.out) (is_up s.life)
  puts =
      let f = s.seen.flags in
      then
      (then
      (then
      (then
      (then
      (then (report f.ask ask s.was s.was (λ _. refl) (either f.ask s.was))
      (report f.accept accept s.was s.was (λ _. refl) (either f.accept s.was)))
      (front s.seen.front s.seen.out s.was (λ is. delivered_up (so.hands is))))
      (report f.up up s.was mid (λ is. ap not (so.rise is)) refl))
      (report f.error error mid mid (λ is. still_up f.up s.was (so.complains is)) (either f.error mid)))
      (report f.release release mid mid (λ _. refl) (either f.release mid)))
      (report f.down down mid (is_up s.life) (λ is. still_up f.up s.was (so.fall is))
      (order f.up f.down s.was so.rise so.fall ∙ so.stands))
    where
      delivered_up : is_delivery s.was s.seen.event (number_in s.seen) ≡ true → s.was ≡ true
      delivered_up is = ((and-eq-true_iff s.was (is_acceptance s.seen.event (number_in s.seen))).0 is).0

  leads : Leads s.was (signs_of s.seen) (is_up s.life)
  unfolding in_order up_at_last
  leads = ((and-eq-true_iff _ _).1 (answers s.was so.answers, puts.signs.0), puts.signs.1)
    where
      answers : (was : Bool) → (is_of_up (number_in s.seen) ≡ true → was ≡ true) → was || not (is_of_up (number_in s.seen)) ≡ true
      answers true ok = refl
      answers false ok = ap not (not-true _ (λ is. false≢true (ok is)))

-- ---- all events

all_lead : (m : Making) (cs : List Call) → Leads up_at_first (trace (seen (history m cs))) (was_up (after m cs).end)
unfolding in_order up_at_last trace seen after history
all_lead m [] = (refl, refl)
all_lead m (c ∷ cs) = joined (trace (seen (history m cs))) _ up_at_first _ _ (all_lead m cs) (leads _ (shown (after m cs) c))

pub up_and_down_alternate : UpAndDownAlternate
up_and_down_alternate m cs = (all_lead m cs).0

-- ---- data and error reports

pub data_only_accepted : DataOnlyAccepted
data_only_accepted m cs c is =
    (delivery_is c.event (after m cs).end.life (answer_of (entry_of m cs c).result) ((shown (after m cs) c).hands is)).2

pub errors_reported : ErrorsReported
errors_reported m cs c = (shown (after m cs) c).reported
