-- What an end keeps for good: its settings, which are in range, and its role; and the length of its queue.
use Prim.Native.Nat.{ℕ, ◌≤◌}
use mathlib.Core.Bool.{Bool, true, and-eq-true_iff, ◌&&◌}
use mathlib.Core.List.{List, [], ◌∷◌}
use mathlib.Core.Path.{◌≡◌, refl, ◌∙◌}
use borrow.Author.Tests.{leb-true}
use lib.Dec.{leb, ltb}
use lib.ListN.{length}
use Rattle.judge.specs.declared.clock.Reading.{Reading}
use Rattle.queue.proofs.Claims.{put_keeps_length}
use Rattle.rules.specs.Decide.{decide_of}
use Rattle.rules.specs.Settings.{in_range_of, between_of, limits_in_range, times_in_range}
use Rattle.rules.specs.declared.act.Event.{Event}
use Rattle.rules.specs.declared.act.Act.{Act}
use Rattle.rules.specs.declared.act.Act.TheVariants.{Stay, Note, Move, Start, Hear, Say}
use Rattle.rules.specs.declared.act.ConnectionMove.TheVariants.{Ask, Accept, Lose, Fall}
use Rattle.rules.specs.declared.act.Exchange.TheVariants.{Begin, Greet, Measure, Estimate, Finish, Rise}
use Rattle.rules.specs.declared.act.Verdict.TheVariants.{Deliver, Report}
use Rattle.rules.specs.declared.act.Speech.TheVariants.{Quiet, Beat, Speak, Drain, Hold}
use Rattle.rules.specs.declared.settings.Settings.{Settings}
use Rattle.rules.specs.declared.state.End.{End}
use Rattle.rules.specs.Perform.{performed}
use Rattle.rules.specs.Place.{queue_after}
use Rattle.rules.specs.Step.{effect_of, stepped}
use Rattle.rules.specs.declared.effect.Placing.{Placing}
use Rattle.rules.specs.declared.effect.Placing.TheVariants.{Nothing, Send, SendUser, SendOldest, Deliver as Hand, Store}
use Rattle.run.specs.Run.{Making, Call, after}

-- ---- settings in range

pub record Ranges (s : Settings) : Type 0 where
  pub jump : 1 ≤ s.jump
  pub errors : 1 ≤ s.errors
  pub some_silence : 2 ≤ s.silence
  pub most_silence : s.silence ≤ 1_000_000
  pub some_wait : 1 ≤ s.wait
  pub most_wait : s.wait ≤ 1_000_000
  pub some_retry : s.wait ≤ s.retry
  pub most_retry : s.retry ≤ 1_000_000

both : (x y : Bool) → x && y ≡ true → (x ≡ true) × (y ≡ true)
both x y t = (and-eq-true_iff x y).0 t

between : (n low high : ℕ) → between_of n low high ≡ true → (low ≤ n) × (n ≤ high)
between n low high t =
    let b = both (leb low n) (leb n high) t in (leb-true low n b.0, leb-true n high b.1)

pub ranges : (s : Settings) → in_range_of s ≡ true → Ranges s
ranges s ok =
    let all = both (limits_in_range s) (times_in_range s) ok in
    let abcd = both (between_of s.age 1 100_000 && between_of s.spread 0 100_000 && between_of s.jump 1 1_000) (between_of s.errors 1 2) all.0 in
    let abc = both (between_of s.age 1 100_000 && between_of s.spread 0 100_000) (between_of s.jump 1 1_000) abcd.0 in
    let quiet = between_of s.silence 2 1_000_000 in
    let signs = leb 1 s.life_sign && ltb s.life_sign s.silence in
    let waits = between_of s.wait 1 1_000_000 in
    let rstc = both (quiet && signs && waits) (between_of s.retry s.wait 1_000_000) all.1 in
    let rst = both (quiet && signs) waits rstc.0 in
    let rs = both quiet signs rst.0 in
    let n = between s.jump 1 1_000 abc.1 in
    let e = between s.errors 1 2 abcd.1 in
    let r = between s.silence 2 1_000_000 rs.0 in
    let t = between s.wait 1 1_000_000 rst.1 in
    let c = between s.retry s.wait 1_000_000 rstc.1 in
    record {
      jump = n.0;
      errors = e.0;
      some_silence = r.0;
      most_silence = r.1;
      some_wait = t.0;
      most_wait = t.1;
      some_retry = c.0;
      most_retry = c.1;
    }

-- ---- kept by every act

module _ (e : End) (at : Reading) where
  abbrev Lasts : Act → Type 0
  Lasts act = ((performed e act at).end.settings ≡ e.settings) × ((performed e act at).end.role ≡ e.role)

  act_lasts : (act : Act) → Lasts act
  unfolding performed
  act_lasts (Stay answer) = (refl, refl)
  act_lasts (Note answer) = (refl, refl)
  act_lasts (Move Ask) = (refl, refl)
  act_lasts (Move Accept) = (refl, refl)
  act_lasts (Move Lose) = (refl, refl)
  act_lasts (Move (Fall answer error)) = (refl, refl)
  act_lasts (Start (Begin goes)) = (refl, refl)
  act_lasts (Start (Greet s)) = (refl, refl)
  act_lasts (Start (Measure m)) = (refl, refl)
  act_lasts (Start (Estimate m)) = (refl, refl)
  act_lasts (Start (Finish s)) = (refl, refl)
  act_lasts (Start (Rise h)) = (refl, refl)
  act_lasts (Hear (Deliver d)) = (refl, refl)
  act_lasts (Hear (Report answer failures)) = (refl, refl)
  act_lasts (Say Quiet) = (refl, refl)
  act_lasts (Say Beat) = (refl, refl)
  act_lasts (Say Speak) = (refl, refl)
  act_lasts (Say Drain) = (refl, refl)
  act_lasts (Say Hold) = (refl, refl)

placing_keeps : (p : Placing) (b q : List ℕ) → length (queue_after p b q) ≡ length q
placing_keeps Nothing b q = refl
placing_keeps (Send m) b q = refl
placing_keeps (SendUser m) b q = refl
placing_keeps (SendOldest m r) b q = refl
placing_keeps Hand b q = refl
placing_keeps (Store r) b q = put_keeps_length q r b

-- ---- kept by every event, and so in every run

pub record Lasting (e f : End) (q p : List ℕ) : Type 0 where
  pub settings : f.settings ≡ e.settings
  pub role : f.role ≡ e.role
  pub size : length p ≡ length q

step_lasts : (e : End) (event : Event) (at : Reading) (b out q : List ℕ)
    → let r = stepped e event at b out q in Lasting e r.outcome.end q r.queue
unfolding stepped effect_of
step_lasts e event at b out q =
    let act = decide_of e event at b (length out) in
    let kept = act_lasts e at act in
    record { settings = kept.0; role = kept.1; size = placing_keeps (performed e act at).placing b q }

pub run_lasts : (m : Making) (cs : List Call)
    → ((after m cs).end.settings ≡ m.settings) × ((after m cs).end.role ≡ m.role) × (length (after m cs).queue ≡ length m.queue)
unfolding after
run_lasts m [] = (refl, refl, refl)
run_lasts m (c ∷ cs) =
    let k = after m cs in
    let so = run_lasts m cs in
    let s = step_lasts k.end c.event c.at c.given c.out k.queue in
    (s.settings ∙ so.0, s.role ∙ so.1, s.size ∙ so.2)
