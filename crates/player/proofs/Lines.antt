-- Laws of the words of a line: outputs one after the other, and the one order of them.
use Prim.Native.Nat.{ℕ}
use mathlib.Core.List.{List, [], ◌∷◌, ◌++◌, append_assoc}
use mathlib.Core.Path.{◌≡◌, refl, ap, sym, ◌∙◌}
use Rattle.rules.specs.Outputs.{Output, front_output, outputs_of}
use Rattle.rules.specs.declared.effect.Flags.{Flags}
use Rattle.rules.specs.declared.effect.Front.{Front}
use Rattle.script.specs.Lines.{word_of, words_of}
use Rattle.player.specs.Reports.{earlier, later}
use Rattle.player.specs.Puts.{Puts}
use Rattle.player.specs.declared.text.Text.{Text}
use Rattle.player.proofs.Putting.{puts_then}

words_append : (os ps : List Output) → words_of (os ++ ps) ≡ words_of os ++ words_of ps
words_append [] ps = refl
words_append (o ∷ os) ps = ap (λ (l : List ℕ). word_of o ++ l) (words_append os ps) ∙ sym (append_assoc (word_of o) (words_of os) (words_of ps))

pub puts_words : (os ps : List Output) {s t u : Text} → Puts s (words_of os) t → Puts t (words_of ps) u → Puts s (words_of (os ++ ps)) u
puts_words os ps p q = rw words_append (puts_then (words_of os) (words_of ps) p q)

-- reports, what stands at the front of the output, reports
pub outputs_in_order : (f : Flags) (front : Front) (out : List ℕ) → outputs_of f front out ≡ earlier f ++ front_output front out ++ later f
outputs_in_order f front out = simp append_assoc
