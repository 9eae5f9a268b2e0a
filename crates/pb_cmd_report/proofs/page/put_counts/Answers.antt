use Rattle.std.proofs.Common.{◌++◌, string_bytes, codes, length, not}
use Rattle.std.specs.Prelude.{count_by}
use Rattle.pb_frame.proofs.TextLemmas.{with_piece}
use Rattle.pb_cmd_survive.specs.Verdicts.{is_converged, are_forests, disconnects}
use Rattle.pb_cmd_report.specs.Failures.{criteria}
use Rattle.pb_cmd_report.specs.Pages.{count_words}
use Rattle.pb_cmd_report.proofs.page.put_counts.Goals as goal

pub returns : goal.returns
returns c =
    let old = string_bytes c.args.out.now in
    let base = c.args.base.now in
    let os = c.args.analyses.now in
    let one = string_bytes c.put_count.new.out in
    let two = string_bytes c.put_count-2.new.out in
    let three = string_bytes c.put_count-3.new.out in
    let four = string_bytes c.put_count-4.new.out in
    let all = count_words (codes "<p id=\"counts\">Failures analysed: ") (length os) in
    let disconnecting = count_words (codes ". With a disconnected service: ")
    (count_by (λ a. disconnects criteria base.impact a.impact) os) in
    let looping = count_words (codes ". With a forwarding loop: ") (count_by (λ a. not (are_forests a.impact.views)) os)
    in
    let not_converged = count_words (codes ". Without convergence: ")
    (count_by (λ a. not (is_converged a.impact.convergence)) os) in
    let counted = c.in_ok-put_count.ensures in
    let disconnected = with_piece old one two all disconnecting counted
    (rw c.count_disconnecting-disconnecting.ensures at c.in_ok-put_count-2.ensures) in
    let looped = with_piece old two three (all ++ disconnecting) looping disconnected
    (rw c.count_looping-looping.ensures at c.in_ok-put_count-3.ensures) in
    let rested = with_piece old three four (all ++ disconnecting ++ looping) not_converged looped
    (rw c.count_not_converged-not_converged.ensures at c.in_ok-put_count-4.ensures) in
    with_piece old four (string_bytes c.push_str.new.self) (all ++ disconnecting ++ looping ++ not_converged)
    (codes ".</p>\n") rested c.in_ok-push_str.ensures.bytes
