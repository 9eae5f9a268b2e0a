use Rattle.std.proofs.Common.{◌≡◌, ◌*◌, length, true, false, arith, rules, refl}
use Rattle.std.specs.List.{list_all}
use Rattle.pb_frame.specs.Hex.{is_digit, IsHex}
use Rattle.pb_frame.proofs.HexLemmas.{IsHex_digits, IsHex_length}
use Rattle.pb_messages.specs.BadLines.{bad_line}
use Rattle.pb_cmd_flat.specs.Answers.{frame, bad}
use Rattle.pb_cmd_flat.specs.Receipts.{Receipt}
use Rattle.pb_cmd_flat.specs.Texts.{answer_text}
use Rattle.pb_cmd_flat.specs.Words.{IsFrameLine}
use Rattle.pb_cmd_flat.proofs.run.answer.Goals as goal

pub returns-in_ok-handle-in-Ok-clause-ok : goal.returns-in_ok-handle-in-Ok-clause-ok
returns-in_ok-handle-in-Ok-clause-ok c =
    let h = c.in_ok-handle-in-Ok.ensures.ok in
    let r : Receipt = record { port = c.in-Some.handed.port; wire = c.in-Ok.frame; outcome = h.outcome } in
    let hex : IsHex c.in-Some.handed.digits.now c.in-Ok.frame = search rules in
    let line : IsFrameLine c.args.limit c.args.ports c.args.line.now r.port r.wire =
    c.in-Some.ensures.some c.in-Ok.frame hex in
    (answer_text r, h.text, frame r line h.receipts refl)

pub returns-in_ok-append_bad-in-Err-Digit-clause-ok : goal.returns-in_ok-append_bad-in-Err-Digit-clause-ok
returns-in_ok-append_bad-in-Err-Digit-clause-ok c =
    let wrong : list_all is_digit c.in-Some.handed.digits.now ≡ false =
    c.hex_octets_in.ensures.digit.0 (search rules) in (
      bad_line c.args.number,
      c.in_ok-append_bad-in-Err-Digit.ensures,
      bad (search rules)
          (λ port octets l.
          let hex = c.in-Some.ensures.only port octets l in
          let digits : list_all is_digit c.in-Some.handed.digits.now ≡ true =
          IsHex_digits c.in-Some.handed.digits.now octets hex in
          cc)
          refl refl,
    )

pub returns-in_ok-append_bad-in-Err-Odd-clause-ok : goal.returns-in_ok-append_bad-in-Err-Odd-clause-ok
returns-in_ok-append_bad-in-Err-Odd-clause-ok c =
    let odd = (c.hex_octets_in.ensures.odd.0 (search rules)).1 in (
      bad_line c.args.number,
      c.in_ok-append_bad-in-Err-Odd.ensures,
      bad (search rules)
          (λ port octets l.
          let hex = c.in-Some.ensures.only port octets l in
          let even : length c.in-Some.handed.digits.now ≡ 2 * length octets =
          IsHex_length c.in-Some.handed.digits.now octets hex in
          omega (arith, odd))
          refl refl,
    )
