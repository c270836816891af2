-- What a list holds.
use Rattle.std.specs.Prelude.{List, [], ◌∷◌, ◌⊎◌, ◌≡◌}

-- x is one of the list
abbrev pub Among : {A : Type 0} → A → List A → Type 0
Among x [] = ⊥
Among x (y ∷ ys) = (x ≡ y) ⊎ Among x ys

-- xs are ys in their order, with some of them left out
abbrev pub Picked : {A : Type 0} → List A → List A → Type 0
Picked xs [] = xs ≡ []
Picked {A} xs (y ∷ ys) = ((rest : List A) × (xs ≡ y ∷ rest) × Picked rest ys) ⊎ Picked xs ys
