use Rattle.std.proofs.Common.{◌++◌, string_bytes, sym, ap, ◌∙◌, append_assoc}
use Rattle.std.proofs.lemmas.Result.{on_ok_weaker}
use Rattle.pb_control_socket.proofs.counts.put_counts.Goals as goal

pub returns : goal.returns
returns g c =
    let first = c.in_ok-put_of_ports.ensures in
    let second = c.in_ok-put_of_bridges.ensures in
    let old = string_bytes c.args.out.now in
    on_ok_weaker c.put_of_ports-2.result (λ third. (
      first.0 ++ (second.0 ++ third.0),
      third.1 ∙ ap (λ text. text ++ third.0) (second.1 ∙ ap (λ text. text ++ second.0) first.1)
          ∙ append_assoc (old ++ first.0) second.0 third.0 ∙ append_assoc old first.0 (second.0 ++ third.0),
      record {
        ports = first.0;
        are_ports = first.2;
        bridges = second.0;
        are_bridges = second.2;
        peers = third.0;
        are_peers = third.2;
        text_is = sym (append_assoc first.0 second.0 third.0);
      },
    )) c.put_of_ports-2.ensures
