use Rattle.pb_step_script.proofs.by_name.links_by_name.Goals as goal

pub returns : goal.returns
returns c = c.sort.ensures _ c.in_ok-links.ensures
