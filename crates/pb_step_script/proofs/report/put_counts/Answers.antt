use Rattle.std.proofs.Common.{◌≡◌, ◌++◌, ℕ, List, Bor, map, flat_map, string_bytes, refl, ap, ◌∙◌, append_assoc}
use Rattle.std.proofs.lemmas.Result.{on_ok_weaker}
use Rattle.pb_step_script.specs.Counts.{port_line, link_line}
use Rattle.pb_step_script.proofs.report.put_counts.Goals as goal

abbrev seen : Bor (List ℕ) × ℕ → List ℕ × ℕ
seen n = (n.0.now, n.1)

pub returns : goal.returns
returns c =
    let plan = c.args.plan.now in
    let rec = c.args.tallies.now in
    let old = string_bytes c.args.out.now in
    let ports = map seen c.in_ok-ports.ports.items in
    let links = map seen c.in_ok-links.links.items in
    let first = flat_map (port_line plan rec) ports in
    let second = flat_map (link_line rec) links in
    let put : string_bytes c.put_ports.new.out ≡ old ++ first =
    c.in_ok-put_ports.ensures ∙ ap (λ xs. old ++ flat_map (port_line plan rec) (map seen xs)) c.as_slice.ensures.value
    in
    on_ok_weaker c.put_links.result (λ e. (
      first ++ second,
      e ∙ ap (λ z. z ++ flat_map (link_line rec) (map seen c.as_slice-2.result.now)) put
          ∙ ap (λ xs. (old ++ first) ++ flat_map (link_line rec) (map seen xs)) c.as_slice-2.ensures.value
          ∙ append_assoc old first second,
      record {
        ports = ports;
        are_ports = c.in_ok-ports.ensures;
        links = links;
        are_links = c.in_ok-links.ensures;
        text_is = refl;
      },
    )) c.put_links.ensures
