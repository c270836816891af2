-- Each side of a run of two ends is a run of one end; so its role, its settings and the length of its queue stay.
use mathlib.Core.List.{List, [], ◌∷◌}
use mathlib.Core.Path.{◌≡◌, refl, ap, ◌∙◌}
use lib.ListN.{length}
use Rattle.queue.specs.Ring.{size}
use Rattle.rules.specs.declared.state.Role.{Role}
use Rattle.run.proofs.Lasting.{run_lasts}
use Rattle.run.specs.Run.{Kept, Call, came_to, kept_in, after as end_after}
use Rattle.pair.specs.Happening.{call_at, kept_of}
use Rattle.pair.specs.World.{Side}
use Rattle.pair.specs.Run.{Origin, SoundOrigin, Beginning, Move, after}
use Rattle.pair.specs.Run.Move.{wait, at_left, at_right}
use Rattle.pair.specs.Sides.{calls_at_left, calls_at_right, EachSideIsARun, SettingsStay}

-- one more call to what is kept
abbrev on : Call → Kept → Kept
on c k = kept_in (came_to k c)

pub each_side_is_a_run : EachSideIsARun
unfolding after end_after
each_side_is_a_run b [] = (refl, refl)
each_side_is_a_run b (wait n ∷ ms) = each_side_is_a_run b ms
each_side_is_a_run b (at_left h ∷ ms) =
    let so = each_side_is_a_run b ms in (ap (on (call_at (after b ms).time (after b ms).left h)) so.0, so.1)
each_side_is_a_run b (at_right h ∷ ms) =
    let so = each_side_is_a_run b ms in (so.0, ap (on (call_at (after b ms).time (after b ms).right h)) so.1)

pub settings_stay : SettingsStay
settings_stay b ms =
    let so = each_side_is_a_run b ms in (
      ap (λ (k : Kept). k.end.settings) so.0 ∙ (run_lasts b.left.making (calls_at_left b ms)).0,
      ap (λ (k : Kept). k.end.settings) so.1 ∙ (run_lasts b.right.making (calls_at_right b ms)).0,
    )

-- what a side keeps that began in a role
pub record Lasts (role : Role) (s : Side) : Type 0 where
  pub in_role : s.end.role ≡ role
  pub whole : length s.queue ≡ size

lasts : (role : Role) (o : Origin) (s : Side) (cs : List Call) → SoundOrigin role o → kept_of s ≡ end_after o.making cs → Lasts role s
lasts role o s cs ok is =
    let so = run_lasts o.making cs in
    record {
      in_role = ap (λ (k : Kept). k.end.role) is ∙ so.1 ∙ ok.in_role;
      whole = ap (λ (k : Kept). length k.queue) is ∙ so.2 ∙ ok.sound.1;
    }

pub left_lasts : (b : Beginning) (ms : List Move) (role : Role) → SoundOrigin role b.left → Lasts role (after b ms).left
left_lasts b ms role ok = lasts role b.left (after b ms).left (calls_at_left b ms) ok (each_side_is_a_run b ms).0

pub right_lasts : (b : Beginning) (ms : List Move) (role : Role) → SoundOrigin role b.right → Lasts role (after b ms).right
right_lasts b ms role ok = lasts role b.right (after b ms).right (calls_at_right b ms) ok (each_side_is_a_run b ms).1
