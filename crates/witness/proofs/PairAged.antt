-- Figures of one letter, and what follows from them by the claims of age, at either side of any run.
use Rattle.std.specs.Prelude.{Some}
use Prim.Native.Nat.{ℕ}
use mathlib.Core.Bool.{true}
use mathlib.Core.List.{List, ◌∷◌}
use mathlib.Core.Path.{◌≡◌}
use Rattle.wire.specs.Message.{parse}
use Rattle.wire.specs.declared.message.Header.{Header}
use Rattle.wire.specs.declared.message.Body.TheVariants.{TrainData}
use Rattle.rules.specs.declared.state.Life.TheVariants.{Up}
use Rattle.pair.specs.World.{Letter, Side, World, true_age}
use Rattle.rules.specs.Claims.{answer_of}
use Rattle.pair.specs.Happening.{result_at}
use Rattle.pair.specs.Run.{Beginning, SoundBeginning, begun}
use Rattle.pair.specs.Run.Move.{wait}
use Rattle.pair.specs.Age.{computed_age, measured_spread}
use Rattle.pair.proofs.Claims.{age_is_bounded, late_is_nearly_old}
use Rattle.witness.specs.PairTable.{Row, comes, moves_in, reached_later}
use Rattle.witness.specs.PairAges.{Aged, ComesLate}
use Rattle.witness.proofs.PairLawful.{may_hand_over, may_hand_over_lem, is_lawful, is_lawful_lem, runs, run_of}

-- all of `Aged` but what follows
pub record Figures (w : World) (to from : Side) (m : Letter) (h : Header) (age computed spread : ℕ) : Type 0 where
  pub may : may_hand_over w.time to from m ≡ true
  pub up : to.end.life ≡ Up
  pub reads : parse m.bytes ≡ Some (record { header = h; body = TrainData })
  pub true_is : true_age m w.time ≡ age
  pub computed_is : computed_age w to h ≡ computed
  pub spread_is : measured_spread to ≡ spread

module _ (b : Beginning) (xs : List Row) (n : ℕ) (sound : SoundBeginning b) (may : runs (begun b) xs ≡ true) (m : Letter) (h : Header) (age computed spread : ℕ) where
  abbrev w : World
  w = reached_later b xs n

  pub aged_at_left : Figures w w.left w.right m h age computed spread → Aged w w.left w.right m h age computed spread
  aged_at_left f =
      let over = may_hand_over_lem w.time w.left w.right m f.may in
      let all = age_is_bounded b sound (wait n ∷ moves_in xs) (run_of b xs may, tt) in
      record { may = over; up = f.up; reads = f.reads; true_is = f.true_is; computed_is = f.computed_is; spread_is = f.spread_is; bounded = all.0 m h TrainData over f.up f.reads }

  pub aged_at_right : Figures w w.right w.left m h age computed spread → Aged w w.right w.left m h age computed spread
  aged_at_right f =
      let over = may_hand_over_lem w.time w.right w.left m f.may in
      let all = age_is_bounded b sound (wait n ∷ moves_in xs) (run_of b xs may, tt) in
      record { may = over; up = f.up; reads = f.reads; true_is = f.true_is; computed_is = f.computed_is; spread_is = f.spread_is; bounded = all.1 m h TrainData over f.up f.reads }

  pub late_at_left : Figures w w.left w.right m h age computed spread → is_lawful w w.left w.right (comes m) ≡ true
      → answer_of (result_at w.time w.left (comes m)) ≡ 11 → ComesLate w w.left w.right m h age computed spread
  late_at_left f lawful is =
      let law = is_lawful_lem w w.left w.right (comes m) lawful in
      let all = late_is_nearly_old b sound (wait n ∷ moves_in xs) (run_of b xs may, tt) in
      record { aged = aged_at_left f; may = law; answer = is; late = all.0 (comes m) law is }

  pub late_at_right : Figures w w.right w.left m h age computed spread → is_lawful w w.right w.left (comes m) ≡ true
      → answer_of (result_at w.time w.right (comes m)) ≡ 11 → ComesLate w w.right w.left m h age computed spread
  late_at_right f lawful is =
      let law = is_lawful_lem w w.right w.left (comes m) lawful in
      let all = late_is_nearly_old b sound (wait n ∷ moves_in xs) (run_of b xs may, tt) in
      record { aged = aged_at_right f; may = law; answer = is; late = all.1 (comes m) law is }
