use Rattle.std.proofs.Common.{◌≡◌, ◌++◌, List, ℕ, None, length, decimal, drop, ap, sym, subst, ◌∙◌, rules}
use Rattle.std.proofs.lemmas.Bool.{false≢true}
use Rattle.std.proofs.lemmas.List.{take-append-drop}
use Rattle.std.proofs.lemmas.Slice.Eq.{bytes_eq-Decides}
use Rattle.std.specs.Str.{IsCharBoundary}
use Rattle.pb_export.proofs.PartLemmas.{number_boundary, digits_are, number_parsed, not_parsed, parsed_as, parsed_range}
use Rattle.pb_export.proofs.parts.number_at.Goals as goal

pub returns-in_err-digits-clause-number : goal.returns-in_err-digits-clause-number
returns-in_err-digits-clause-number c =
    let text = c.args.text.now in
    let none : c.from_residual.result ≡ None = search rules in
    rw none (λ n back is. false≢true (c.in_err-digits.ensures.variant.1
    (subst (IsCharBoundary text) (sym c.digit_count.ensures) (number_boundary n text back c.utf8.text is))))

pub returns-in_err-number-clause-number : goal.returns-in_err-number-clause-number
returns-in_err-number-clause-number c =
    let none : c.from_residual-in_err-number.result ≡ None = search rules in
    rw none (λ n back is. not_parsed n c.parse.result
    (number_parsed n c.digit_count.result c.args.text.now back c.in_ok-digits.digits.now c.parse.result is
    c.digit_count.ensures c.in_ok-digits.ensures.front c.parse.ensures.value.0) c.in_err-number.ensures.value)

pub returns-else-eq-clause-number : goal.returns-else-eq-clause-number
returns-else-eq-clause-number c =
    let digits = c.in_ok-digits.digits.now in
    let text = c.args.text.now in
    let k = c.digit_count.result in
    let number = c.in_ok-number.number in
    let front = c.in_ok-digits.ensures.front in
    λ n back is.
    let value = c.parse.ensures.value.0 in
    let parsed = number_parsed n k text back digits c.parse.result is c.digit_count.ensures front value in
    let same : number ≡ n = parsed_as number n c.parse.result parsed c.in_ok-number.ensures.value in
    let written : c.format.result.now ≡ digits =
    c.format.ensures.text ∙ ap decimal same ∙ sym (digits_are n k text back digits is c.digit_count.ensures front) in
    false≢true (c.if-eq.ensures ∙ (bytes_eq-Decides c.format.result.now digits).1 written)

pub returns-then-eq : goal.returns-then-eq
returns-then-eq c =
    let digits = c.in_ok-digits.digits.now in
    let rest = c.in_ok-digits.rest.now in
    let text = c.args.text.now in
    let told : digits ≡ decimal c.in_ok-number.number =
    sym ((bytes_eq-Decides c.format.result.now digits).0 (sym c.if-eq.ensures)) ∙ c.format.ensures.text in
    let cut : text ≡ decimal c.in_ok-number.number ++ rest =
    sym (take-append-drop c.digit_count.result text) ∙ ap (λ (z : List ℕ). z ++ drop c.digit_count.result text)
    (sym c.in_ok-digits.ensures.front)
    ∙ ap (λ (z : List ℕ). digits ++ z) (sym c.in_ok-digits.ensures.back) ∙ ap (λ (z : List ℕ). z ++ rest) told in
    record {
      text = cut;
      number = record {
        range = parsed_range c.in_ok-number.number digits c.parse.result c.parse.ensures.value.0
            c.in_ok-number.ensures.value;
        text_is = cut;
        whole = sym c.digit_count.ensures ∙ sym c.in_ok-digits.ensures.front_len ∙ ap length told;
      };
    }
