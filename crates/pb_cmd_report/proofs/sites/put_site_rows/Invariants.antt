use Rattle.std.proofs.Common.{◌≡◌, ◌++◌, drop, flat_map, string_bytes}
use Rattle.pb_cmd_report.specs.Tables.{site_row}
use Rattle.pb_cmd_report.proofs.sites.put_site_rows.Given as goal

abbrev pub invariant-loop-site : goal.invariant-loop-site
invariant-loop-site l =
    string_bytes l.out ++ flat_map (site_row l.plan) (drop l.site-index l.plan.customers) ≡ string_bytes l.initial.out
    ++ flat_map (site_row l.plan) l.plan.customers
