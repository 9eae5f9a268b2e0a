use Rattle.std.proofs.Common.{◌≡◌, ◌∙◌, false, List, sym, subst}
use Rattle.std.specs.List.{AllByRecursion, list_any}
use Rattle.pb_relay.specs.Protocol.{spanning_tree}
use Rattle.pb_lan.specs.Laws.{is_setting}
use Rattle.pb_lan.specs.Records.{IsLawfulRecord}
use Rattle.pb_lan.specs.declared.record.Record.{Record}
use Rattle.pb_lan.specs.declared.step.Step.{Step}
use Rattle.pb_lan.proofs.Headline.{faithful}
use Rattle.pb_lan.proofs.Stillness.{planned_states_stay, still_frames_are_traced}
use Rattle.pb_history.specs.Tallied.{record_of}
use Rattle.pb_workers.specs.Lossless.{refuses_when_full}
use Rattle.pb_run.specs.Taps.{AreTapped}
use Rattle.pb_run.proofs.Lawful.{lawful_workers}
use Rattle.pb_run.proofs.running.told_of.Goals as goal

-- records of equal lists are equal
same_records : (a b c d e f : List (List Step)) → a ≡ b → c ≡ d → e ≡ f → record_of a c e ≡ record_of b d f
same_records a b c d e f p q r = cc

pub returns-clause-steps : goal.returns-clause-steps
returns-clause-steps g c =
    let one = c.meet_accesses.ensures in
    let two = c.meet_links.ensures in
    let plan = c.args.plan.now in
    let rec = record_of c.bridge_lists-bridges.result.tallies.items c.lane_lists-lanes.result.tallies.items
    c.access_lists-customers.result.tallies.items in
    let lawful = subst (λ (r : Record). IsLawfulRecord spanning_tree plan r) (sym c.new.ensures)
    (lawful_workers _ _ _ _ _ _ plan rec
    c.meet_links.new.bridges.items c.meet_links.new.lanes.items c.meet_accesses.new.accesses.items _ _ _ _ _ _ _
    c.bridge_lists-bridges.ensures.steps c.lane_lists-lanes.ensures.steps c.access_lists-customers.ensures.steps
    (two.bridges.0 ∙ one.bridges.0) two.lanes.0 one.accesses.0
    (two.bridges.1 ∙ one.bridges.1) one.accesses.1 two.bridges.1 two.lanes.1
    c.requires.back.bridges c.requires.back.lanes c.requires.back.accesses
    c.bridge_lists-bridges.ensures.lawful c.lane_lists-lanes.ensures.lawful c.access_lists-customers.ensures.lawful
    one.meet two.meet) in
    record {
      lawful = lawful;
      headline = faithful spanning_tree plan c.new.result c.requires.sound lawful;
      planned = λ fixed unset. still_frames_are_traced spanning_tree plan c.new.result lawful
          (planned_states_stay spanning_tree plan c.new.result fixed lawful unset);
    }

pub returns-clause-mode : goal.returns-clause-mode
returns-clause-mode g c = record {
  unset = λ still.
      subst (λ (r : Record). AllByRecursion (λ steps. list_any is_setting steps ≡ false) r.bridges) (sym c.new.ensures)
      (c.bridge_lists-bridges.ensures.unset still);
  whole = λ waits.
      subst (λ (r : Record). AllByRecursion (λ steps. list_any refuses_when_full steps ≡ false) r.bridges)
      (sym c.new.ensures) (c.bridge_lists-bridges.ensures.whole waits);
}

pub returns-clause-back : goal.returns-clause-back
returns-clause-back g c = (
  λ keeps.
      let bridges = c.bridge_lists-bridges.ensures in
      let lanes = c.lane_lists-lanes.ensures in
      let customers = c.access_lists-customers.ensures in
      same_records _ _ _ _ _ _ (c.from_vec.ensures ∙ bridges.kept keeps ∙ sym bridges.steps)
      (c.from_vec-2.ensures ∙ lanes.kept keeps ∙ sym lanes.steps)
      (c.from_vec-3.ensures ∙ customers.kept keeps ∙ sym customers.steps) ∙ sym c.new.ensures,
  subst (λ (r : Record). AreTapped r.lanes c.lane_lists-lanes.new.taps_room.items) (sym c.new.ensures)
      c.lane_lists-lanes.ensures.taps,
)
