use Rattle.std.proofs.Common.{◌≢◌, ◌^◌, ◌-◌, ◌<◌, ◌++◌, [], false, Some, codes, string_bytes}
use Rattle.std.proofs.Common.{ap, subst, ◌∙◌, arith, rules}
use Rattle.std.proofs.lemmas.Fmt.{hex_byte}
use Rattle.std.specs.Fmt.{AppendsText, ◌++?◌, styled_digits_output, padded_integral, format_spec}
use Rattle.std.specs.Option.{option_map}
use Rattle.pb_printable.proofs.PrintableLemmas.{control_low, escape_written}
use Rattle.pb_printable.proofs.put_escape.Goals as goal

pub returns-in_ok-write-in_default : goal.returns-in_ok-write-in_default
returns-in_ok-write-in_default c =
    let n = c.args.control in
    let low : n < 160 = control_low n (search rules) in
    let styled = ap (λ s. styled_digits_output c.in_radix.result s) c.laid_out.ensures in
    let digits = ap (option_map (padded_integral (format_spec 32 0 4 2 (2 ^ 64 - 1)) false [])) c.in_radix.ensures in
    let two = ap (λ ds. Some ds) (hex_byte false n (omega arith)) in
    let written = subst (λ o. AppendsText (string_bytes c.args.out.now) (string_bytes c.write.new.self)
    (Some (codes "\\u00") ++? o)) (styled ∙ digits ∙ two) c.in_ok-write-in_default.ensures.bytes in
    let lf : n ≢ 10 = λ e. omega arith in
    let cr : n ≢ 13 = λ e. omega arith in
    let tab : n ≢ 9 = λ e. omega arith in
    written ∙ ap (λ text. string_bytes c.args.out.now ++ text) (escape_written n lf cr tab)
