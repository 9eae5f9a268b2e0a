use Rattle.std.proofs.Common.{flat_map, string_bytes, ◌++◌, ◌∙◌, ap}
use Rattle.std.specs.List.{range_with_len}
use Rattle.pb_cmd_init.specs.PlanTexts.{head_text, keys_text, further_text, places_text, bridge_text, link_text}
use Rattle.pb_cmd_init.specs.PlanTexts.{services_text, ports_text, kinds_text, failures_text}
use Rattle.pb_cmd_init.specs.Topologies.{bridge_count, link_count, site_bridge}
use Rattle.pb_frame.proofs.TextLemmas.{with_piece, last_piece}
use Rattle.pb_cmd_init.proofs.plan_file.put_plan.Goals as goal

pub returns : goal.returns
returns c =
    let topology = c.args.topology in
    let services = c.args.services in
    let old = string_bytes c.args.out.now in
    let all_bridges = flat_map bridge_text (range_with_len 1 (bridge_count topology)) in
    let all_links = flat_map (link_text topology) (range_with_len 1 (link_count topology)) in
    let all_ports = flat_map (ports_text topology) (range_with_len 1 services) in
    let ports = string_bytes c.put_ports.new.out in
    let kinds = string_bytes c.put_kinds.new.out in
    let put_bridges = with_piece old (string_bytes c.put_head.new.out) (string_bytes c.put_bridges.new.out)
    (head_text ++ keys_text topology ++ further_text ++ places_text) all_bridges c.in_ok-put_head.ensures
    c.in_ok-put_bridges.ensures in
    let put_links = with_piece old (string_bytes c.put_bridges.new.out) (string_bytes c.put_links.new.out) _ all_links
    put_bridges c.in_ok-put_links.ensures in
    let put_services = with_piece old (string_bytes c.put_links.new.out) (string_bytes c.put_services.new.out) _
    (services_text services) put_links c.in_ok-put_services.ensures in
    let put_ports = with_piece old (string_bytes c.put_services.new.out) ports _ all_ports put_services
    c.in_ok-put_ports.ensures in
    let put_kinds = with_piece old ports kinds _ (kinds_text (site_bridge topology 1) services) put_ports
    (c.in_ok-put_kinds.ensures ∙ ap (λ bridge. ports ++ kinds_text bridge services) c.first_site.ensures) in
    last_piece c.put_failures.result old kinds (string_bytes c.put_failures.new.out) _ (failures_text topology)
    put_kinds c.put_failures.ensures
