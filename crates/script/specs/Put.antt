-- What a lent text holds once bytes have been put into it.
use Rattle.std.specs.Prelude.{ℕ, ◌+◌, List, ◌≡◌, length}
use Rattle.std.proofs.lemmas.List.Edits.{sets}

-- w was put into `before` from place `at` on, every other byte stays, and the next place is `to`
pub record Put (before : List ℕ) (at : ℕ) (w : List ℕ) (after : List ℕ) (to : ℕ) : Type 0 where
  pub next : to ≡ at + length w
  pub stored : after ≡ sets before at w
