use Rattle.std.proofs.Common.{List, ap, ◌∙◌}
use Rattle.std.specs.List.{flat_map}
use Rattle.pb_frame.specs.Lists.{first}
use Rattle.pb_lan.specs.Ports.{is_customer_at, is_end_at, ends_of}
use Rattle.pb_lan.specs.declared.plan.CustomerPlan.{CustomerPlan}
use Rattle.pb_lan.specs.declared.plan.LinkPlan.{LinkPlan}
use Rattle.pb_svlan.specs.ServiceTables.{ServiceTable, is_taken, attached, carried, kind_at}
use Rattle.pb_svlan.specs.declared.port.PortKind.TheVariants.{Customer, Trunk}
use Rattle.pb_relay.proofs.AttachLemmas.{end_known, customer_kept, end_kept, kind-elsewhere}
use Rattle.pb_relay.proofs.StandingLemmas.{customer_there, end_there}
use Rattle.pb_relay.proofs.ServiceLemmas.{known}
use Rattle.pb_relay.proofs.start.attach.Goals as goal

pub join-requires-clause-priority : goal.join-requires-clause-priority
join-requires-clause-priority c =
    let found = c.in-Some.ensures
    ∙ ap (λ (cs : List CustomerPlan). first (is_customer_at c.args.number c.args.port) cs) c.as_slice.ensures in
    (customer_there c.args.plan.now c.args.number c.args.port c.in-Some.customer.now c.requires.sound found).0.priority

pub join-requires-clause-known : goal.join-requires-clause-known
join-requires-clause-known c =
    let found = c.in-Some.ensures
    ∙ ap (λ (cs : List CustomerPlan). first (is_customer_at c.args.number c.args.port) cs) c.as_slice.ensures in
    known c.args.plan.now c.args.services.now c.in-Some.customer.now.service c.requires.services
    (customer_there c.args.plan.now c.args.number c.args.port c.in-Some.customer.now c.requires.sound
    found).0.service

pub join-requires-clause-free : goal.join-requires-clause-free
join-requires-clause-free c =
    let found = c.in-Some.ensures
    ∙ ap (λ (cs : List CustomerPlan). first (is_customer_at c.args.number c.args.port) cs) c.as_slice.ensures in
    ap (is_taken c.args.services.now) (customer_there c.args.plan.now c.args.number c.args.port c.in-Some.customer.now
    c.requires.sound found).1 ∙ c.requires.free

pub returns-in-Some-clause-kept : goal.returns-in-Some-clause-kept
returns-in-Some-clause-kept c =
    let found = c.in-Some.ensures
    ∙ ap (λ (cs : List CustomerPlan). first (is_customer_at c.args.number c.args.port) cs) c.as_slice.ensures in
    let joined = c.in_ok-join.ensures in
    customer_kept c.args.plan.now c.args.number c.args.port c.args.services.now c.join.new.services joined.join _
    c.in-Some.customer.now c.requires.sound c.requires.services found c.requires.free joined.vid joined.pcp
    joined.table

pub returns-in-Some-clause-others : goal.returns-in-Some-clause-others
returns-in-Some-clause-others c = λ p other.
    let found = c.in-Some.ensures
    ∙ ap (λ (cs : List CustomerPlan). first (is_customer_at c.args.number c.args.port) cs) c.as_slice.ensures in
    let joined = c.in_ok-join.ensures in
    ap (λ (t : ServiceTable). kind_at t p)
    (joined.table ∙ ap (λ n. attached c.args.services.now n (Customer joined.join))
    (customer_there c.args.plan.now c.args.number c.args.port c.in-Some.customer.now c.requires.sound found).1)
    ∙ kind-elsewhere c.args.services.now c.args.port p (Customer joined.join) c.requires.free other

pub trunk-requires-clause-known : goal.trunk-requires-clause-known
trunk-requires-clause-known c =
    let found = c.in-Some-end_at.ensures
    ∙ ap (λ (ls : List LinkPlan). first (is_end_at c.args.number c.args.port) (flat_map ends_of ls))
    c.as_slice-2.ensures in
    end_known c.args.plan.now c.args.services.now c.in-Some-end_at.end.now c.requires.services
    (end_there c.args.plan.now c.args.number c.args.port c.in-Some-end_at.end.now c.requires.sound found).0

pub trunk-requires-clause-free : goal.trunk-requires-clause-free
trunk-requires-clause-free c =
    let found = c.in-Some-end_at.ensures
    ∙ ap (λ (ls : List LinkPlan). first (is_end_at c.args.number c.args.port) (flat_map ends_of ls))
    c.as_slice-2.ensures in
    ap (is_taken c.args.services.now) (end_there c.args.plan.now c.args.number c.args.port c.in-Some-end_at.end.now
    c.requires.sound found).1 ∙ c.requires.free

pub returns-clause-kept : goal.returns-clause-kept
returns-clause-kept c =
    let nobody = c.in_default.ensures
    ∙ ap (λ (cs : List CustomerPlan). first (is_customer_at c.args.number c.args.port) cs) c.as_slice.ensures in
    let found = c.in-Some-end_at.ensures
    ∙ ap (λ (ls : List LinkPlan). first (is_end_at c.args.number c.args.port) (flat_map ends_of ls))
    c.as_slice-2.ensures in
    end_kept c.args.plan.now c.args.number c.args.port c.args.services.now c.trunk.new.services
    c.in-Some-end_at.end.now c.requires.sound c.requires.services nobody found c.requires.free
    c.in_ok-trunk.ensures

pub returns-clause-others : goal.returns-clause-others
returns-clause-others c = λ p other.
    let found = c.in-Some-end_at.ensures
    ∙ ap (λ (ls : List LinkPlan). first (is_end_at c.args.number c.args.port) (flat_map ends_of ls))
    c.as_slice-2.ensures in
    let e = c.in-Some-end_at.end.now in
    ap (λ (t : ServiceTable). kind_at t p)
    (c.in_ok-trunk.ensures ∙ ap
    (λ n. attached c.args.services.now n (Trunk (carried c.args.services.now e.services)))
    (end_there c.args.plan.now c.args.number c.args.port e c.requires.sound found).1)
    ∙ kind-elsewhere c.args.services.now c.args.port p (Trunk (carried c.args.services.now e.services))
    c.requires.free other
