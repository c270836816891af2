use Rattle.std.proofs.Common.{◌≡◌, ℕ, ◌+◌, ◌<◌, ◌^◌, ◌-◌, false, Some, Ok, List, [], ◌++◌, length, get_or, take, refl, rules, sym, ap, subst, ◌∙◌}
use Rattle.std.proofs.Output.{has_written_append, has_written_of_eq}
use Rattle.std.proofs.lemmas.Fmt.{hex_byte}
use Rattle.std.proofs.lemmas.List.{take_more, flat_map_more}
use Rattle.std.specs.Fmt.{DisplaysOnOk, format_spec, padded_integral, styled_digits_output}
use Rattle.std.specs.List.{flat_map}
use Rattle.std.specs.Option.{option_map}
use Rattle.inspect.specs.Text.{byte_of}
use Rattle.inspect.proofs.show.HexDisplay.fmt.Goals as goal

-- what is written so far, and a byte more
byte_more : (s : List ℕ) (i : ℕ) → i < length s → flat_map byte_of (take i s) ++ byte_of (get_or s i 0) ≡ flat_map byte_of (take (i + 1) s)
byte_more s i lt = flat_map_more byte_of [] (take i s) (get_or s i 0) ∙ ap (flat_map byte_of) (sym (take_more s i 0 lt))

pub loop-byte-preserved : goal.loop-byte-preserved
loop-byte-preserved g c = λ plain.
    let s = c.args.self.now.0.now in
    let i = c.loop-byte.byte-index in
    let before = c.loop-byte.invariant plain in
    let text : styled_digits_output c.in_radix.result c.laid_out.result ≡ Some (byte_of (get_or s i 0)) =
    rw c.laid_out.ensures (ap (option_map (padded_integral (format_spec 32 0 4 2 (2 ^ 64 - 1)) false [])) c.in_radix.ensures ∙ ap Some (hex_byte false (get_or s i 0) (search rules))) in
    let written = subst (λ o. DisplaysOnOk g.W.Write.write_str_gives c.loop-byte.f (Ok c.in_ok-write.field-0) o c.write.new.self) text c.in_ok-write.ensures.writes in
    has_written_of_eq _ _ _ _ _ (byte_more s i c.loop-byte-test.true) (has_written_append _ _ _ _ _ _ before (written before.plain refl))
