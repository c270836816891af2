-- What leads to the answer "late".
use Rattle.std.specs.Prelude.{Some}
use Prim.Native.Nat.{ℕ, ◌<◌}
use native.Mathlib.Omega.{arith}
use mathlib.Core.Bool.{Bool, true, false}
use mathlib.Core.Path.{◌≡◌, refl, ap, ◌∙◌}
use borrow.Author.Tests.{eqb-false, ne_eqb, leb-false}
use lib.Dec.{eqb}
use lib.ListN.{length}
use Rattle.judge.specs.declared.clock.Reading.{Reading}
use Rattle.wire.specs.Message.{parse}
use Rattle.wire.specs.declared.message.Header.{Header}
use Rattle.wire.specs.declared.message.Body.{Body}
use Rattle.rules.proofs.Grounds.{NoteGrounds, MoveGrounds, VerdictGrounds, StayGrounds, Failure, Fallen, body_of}
use Rattle.rules.proofs.Grounds.Failure.{is_old, is_late}
use Rattle.rules.proofs.Grounds.Fallen.{by_silence, by_start, by_loss, by_failure}
use Rattle.rules.proofs.Grounds.StayGrounds.{no_room, went_back}
use Rattle.rules.specs.Answers.{number_of}
use Rattle.rules.specs.Claims.{answer_of}
use Rattle.rules.specs.Hearing.{age_for}
use Rattle.rules.specs.Perform.{performed}
use Rattle.rules.specs.Talking.{has_gap, delivered_answer}
use Rattle.rules.specs.declared.answer.Answer.{Answer}
use Rattle.rules.specs.declared.act.Event.TheVariants.{Message}
use Rattle.rules.specs.declared.act.Act.{Act}
use Rattle.rules.specs.declared.act.Act.TheVariants.{Stay, Note, Move, Start, Hear, Say}
use Rattle.rules.specs.declared.act.ConnectionMove.{ConnectionMove}
use Rattle.rules.specs.declared.act.ConnectionMove.TheVariants.{Ask, Accept, Lose, Fall}
use Rattle.rules.specs.declared.act.Exchange.{Exchange}
use Rattle.rules.specs.declared.act.Exchange.TheVariants.{Begin, Greet, Measure, Estimate, Finish, Rise}
use Rattle.rules.specs.declared.act.Verdict.{Verdict}
use Rattle.rules.specs.declared.act.Verdict.TheVariants.{Deliver, Report}
use Rattle.rules.specs.declared.act.Speech.{Speech}
use Rattle.rules.specs.declared.act.Speech.TheVariants.{Quiet, Beat, Speak, Drain, Hold}
use Rattle.rules.specs.declared.state.Life.TheVariants.{Up}
use Rattle.run.proofs.Calls.{entry_by, by_call}
use Rattle.run.proofs.Noted.{note_sort, sort_few}
use Rattle.pair.specs.World.{Side, clock_of}
use Rattle.pair.specs.Happening.{Happening, bytes_beside, call_at, kept_of, result_at}

-- an end that is Up has read the letter, and its age was above the limit
pub record Stale (time : ℕ) (s : Side) (c : Happening) : Type 0 where
  pub header : Header
  pub body : Body
  pub comes : c.event ≡ Message
  pub lives : s.end.life ≡ Up
  pub reads : parse c.letter.bytes ≡ Some (record { header = header; body = body })
  pub old : s.end.settings.age < age_for s.end (clock_of s time) header

-- what is delivered is not late
given_timely : (gap : Bool) → eqb (number_of (delivered_answer gap)) 11 ≡ false
given_timely true = refl
given_timely false = refl

module _ (time : ℕ) (s : Side) (c : Happening) where
  abbrev at : Reading
  at = clock_of s time

  abbrev Late : ℕ → Type 0
  Late n = n ≡ 11 → Stale time s c

  abbrev By : Act → Type 0
  By act = Late (answer_of (entry_by (kept_of s) (call_at time s c) act).result)

  -- any other answer
  other : (n : ℕ) → eqb n 11 ≡ false → Late n
  other n t eleven = absurd (eqb-false n 11 t eleven)

  refused : (a answer : Answer) → a ≡ answer → eqb (number_of answer) 11 ≡ false → Late (number_of a)
  refused a answer is t = other (number_of a) (ap (λ (b : Answer). eqb (number_of b) 11) is ∙ t)

  staying : (a : Answer) → StayGrounds s.end c.event at (bytes_beside c) (length c.out) a → By (Stay a)
  unfolding performed
  staying a (no_room is short) = refused a _ is refl
  staying a (went_back is fits back) = refused a _ is refl

  noting : (a : Answer) → NoteGrounds s.end c.event at (bytes_beside c) a → By (Note a)
  unfolding performed
  noting a g =
      let few = sort_few s.end c.event at (bytes_beside c) (number_of a) (note_sort s.end c.event at (bytes_beside c) a g) in
      other (number_of a) (ne_eqb (number_of a) 11 (λ z. omega arith))

  failing : (a : Answer) → Failure s.end c.event at (bytes_beside c) a → Late (number_of a)
  failing a (is_old h train is hears class) = refused a _ is refl
  failing a (is_late h train is hears near stale) =
      λ eleven. record {
        header = h;
        body = body_of s.end c.event at (bytes_beside c) train;
        comes = hears.comes;
        lives = hears.living;
        reads = rw hears.comes at hears.reads;
        old = leb-false (age_for s.end at h) s.end.settings.age stale;
      }

  falling : (a : Answer) (error : Bool) → Fallen s.end c.event at (bytes_beside c) a error → Late (number_of a)
  falling a error (by_silence is quiet over alive sort) = refused a _ is refl
  falling a error (by_start life h body is quiet low next kind wrong) = refused a _ is refl
  falling a error (by_loss h train is quiet hears class) = refused a _ is refl
  falling a error (by_failure loud why full) = failing a why

  moving : (m : ConnectionMove) → MoveGrounds s.end c.event at (bytes_beside c) m → By (Move m)
  unfolding performed
  moving Ask g = other 0 refl
  moving Accept g = other 0 refl
  moving Lose g = other 0 refl
  moving (Fall answer error) g = falling answer error g

  starting : (x : Exchange) → By (Start x)
  unfolding performed
  starting (Begin goes) = other 0 refl
  starting (Greet w) = other 0 refl
  starting (Measure m) = other 0 refl
  starting (Estimate m) = other 0 refl
  starting (Finish w) = other 0 refl
  starting (Rise h) = other 0 refl

  hearing : (v : Verdict) → VerdictGrounds s.end c.event at (bytes_beside c) v → By (Hear v)
  unfolding performed
  hearing (Deliver d) g = other _ (given_timely (has_gap d))
  hearing (Report answer failures) g = failing answer g.0

  saying : (v : Speech) → By (Say v)
  unfolding performed
  saying Quiet = other 0 refl
  saying Beat = other 0 refl
  saying Speak = other 0 refl
  saying Drain = other 0 refl
  saying Hold = other 0 refl

  pub late : answer_of (result_at time s c) ≡ 11 → Stale time s c
  late =
      by_call (kept_of s) (call_at time s c) (λ x. Late (answer_of x.result)) staying
      (λ t. record { notes = noting; moves = moving; starts = λ x g. starting x; hears = hearing; says = λ v g. saying v })
