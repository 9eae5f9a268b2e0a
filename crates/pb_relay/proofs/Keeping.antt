-- The invariant of a bridge, and that it holds after one more step.
use Rattle.std.proofs.Common.{◌≡◌, ℕ, ◌+◌, ◌<◌, ◌≤◌, ◌^◌, true, [], ◌∷◌, ◌++◌, None, refl, sym, ap, ◌∙◌, subst, arith}
use Rattle.std.proofs.Common.{length-append}
use Rattle.std.specs.declared.option.Option.{Option}
use Rattle.pb_frame.specs.declared.learnt.Learnt.{Learnt}
use Rattle.pb_frame.specs.declared.reason.Reason.{Reason}
use Rattle.pb_lan.specs.BridgeLists.{Fits}
use Rattle.pb_lan.specs.Ports.{port_at, is_provider, is_used}
use Rattle.pb_lan.specs.declared.step.Item.{Item}
use Rattle.pb_lan.specs.declared.step.Moved.{Moved}
use Rattle.pb_lan.specs.declared.step.Outcome.{Outcome}
use Rattle.pb_lan.specs.declared.step.Outcome.TheVariants.{Filtered}
use Rattle.pb_lan.specs.declared.step.Step.{Step}
use Rattle.pb_lan.specs.declared.step.Step.TheVariants.{Receive}
use Rattle.pb_rstp.specs.Ports.{Machine}
use Rattle.pb_history.specs.StepLists.{StepsView, with_step as steps_with, given_back}
use Rattle.pb_relay.specs.declared.backlog.Capacity.{Capacity}
use Rattle.pb_relay.specs.LocalPorts.{IsConfigured}
use Rattle.pb_relay.specs.Machines.{IsSpanning}
use Rattle.pb_relay.specs.Protocol.{spanning_tree}
use Rattle.pb_relay.specs.Receptions.{HasTaken}
use Rattle.pb_relay.specs.Standing.{BridgeView, IsStanding, HasRoom, with_step}
use Rattle.pb_relay.specs.Tables.{IsTableOf}
use Rattle.pb_relay.specs.declared.bridge.Bridge.TheInside.{Inside}
use Rattle.pb_relay.specs.declared.forwarding.Forwarding.{Forwarding}
use Rattle.pb_relay.proofs.CauseLemmas.{spanning_stays}
use Rattle.pb_relay.proofs.SettingLemmas.{provider_used}
use Rattle.pb_relay.proofs.StandingLemmas.{used_port, now_few, after_quiet}

-- what callers see of the bridge
abbrev pub shown : Inside → BridgeView
shown s = record {
  plan = s.plan;
  number = s.number;
  steps = s.steps.steps;
  is_kept = s.steps.is_kept;
  is_reserved = s.steps.is_reserved;
}

-- the invariant
abbrev pub Keeps : Inside → Type 0
Keeps s =
    IsConfigured s.plan s.number s.ports s.forwarding.backlog.capacity s.limit
    × IsStanding s.plan s.number s.steps.steps s.forwarding.states s.forwarding.backlog.ports s.clock
    s.forwarding.table.sightings
    × HasRoom s.steps.steps s.limit s.steps.is_reserved
    × IsTableOf s.plan s.clock s.forwarding.table
    × IsSpanning s.plan s.number s.steps.steps s.rstp s.address.0
    × (s.forwarding.backlog.is_kept ≡ s.steps.is_kept)

-- a used port is 1 to 16
pub used_there : {v : BridgeView} (s : Inside) (p : ℕ) → Keeps s → shown s ≡ v
    → is_used (port_at v.plan v.number p) ≡ true → (1 ≤ p) × (p ≤ 16)
used_there s p k view used = used_port s.plan s.number p k.0.sound
    (ap (λ (v : BridgeView). is_used (port_at v.plan v.number p)) view ∙ used)

-- a port to another bridge is 1 to 16
pub linked_there : {v : BridgeView} (s : Inside) (p : ℕ) → Keeps s → shown s ≡ v
    → is_provider (port_at v.plan v.number p) ≡ true → (1 ≤ p) × (p ≤ 16)
linked_there s p k view linked =
    used_there s p k view (provider_used _ linked)

-- the clock does not overflow if a step is reserved
pub clock_small : {v : BridgeView} (s : Inside) → Keeps s → shown s ≡ v → v.is_reserved ≡ true → s.clock + 1 < 2 ^ 64
clock_small s k view room = omega (
  arith,
  k.2.reserved (ap (λ (v : BridgeView). v.is_reserved) view ∙ room),
  k.0.steps,
  k.0.sound.limits.steps.1,
  k.1.clock,
  now_few s.steps.steps,
)

-- the invariant holds after one more step that was reserved, if the bridge's state follows from its steps
pub grown : {v : BridgeView} (s : Inside) (f : Forwarding) (clock : ℕ) (rstp : Option Machine) (steps : StepsView)
    (step : Step) → Keeps s → shown s ≡ v → v.is_reserved ≡ true → steps ≡ steps_with s.steps step
    → f.backlog.capacity ≡ s.forwarding.backlog.capacity → f.backlog.is_kept ≡ s.forwarding.backlog.is_kept
    → IsStanding s.plan s.number (s.steps.steps ++ step ∷ []) f.states f.backlog.ports clock f.table.sightings
    → IsTableOf s.plan clock f.table → IsSpanning s.plan s.number (s.steps.steps ++ step ∷ []) rstp s.address.0
    → Keeps (record s { forwarding = f; clock = clock; rstp = rstp; steps = steps })
grown s f clock rstp steps step k view room e capacity kept standing table spanning =
    subst (λ (z : StepsView). Keeps (record s { forwarding = f; clock = clock; rstp = rstp; steps = z })) (sym e) (
      subst (λ (n : Capacity). IsConfigured s.plan s.number s.ports n s.limit) (sym capacity) k.0,
      standing,
      record {
        within = omega (
          arith,
          k.2.reserved (ap (λ (v : BridgeView). v.is_reserved) view ∙ room),
          length-append s.steps.steps (step ∷ []),
        );
        reserved = λ used. absurd cc;
      },
      table,
      spanning,
      kept ∙ k.5,
    )

-- the invariant holds after the step of a frame that is filtered
pub filtered : {v : BridgeView} (s : Inside) (steps : StepsView) (port : ℕ) (item : Item) (reason : Reason) → Keeps s
    → shown s ≡ v → v.is_reserved ≡ true → steps ≡ steps_with s.steps (Receive port item None (Filtered reason) None)
    → Fits spanning_tree s.plan s.number s.steps.steps (Receive port item None (Filtered reason) None)
    → Keeps (record s { steps = steps })
filtered s steps port item reason k view room e fits =
    let step : Step = Receive port item None (Filtered reason) None in
    grown s s.forwarding s.clock s.rstp steps step k view room e refl refl
    (after_quiet _ _ _ _ _ _ _ step k.1 fits refl refl refl (λ _. refl) (λ _ _. refl)) k.3
    (spanning_stays _ _ _ _ _ step refl k.4)

-- callers see the step
pub seen : {v : BridgeView} (s : Inside) (steps : StepsView) (step : Step) → steps ≡ steps_with s.steps step
    → shown s ≡ v → shown (record s { steps = steps }) ≡ with_step v step
seen s steps step e view =
    ap (λ (z : StepsView). shown (record s { steps = z })) e ∙ ap (λ (v : BridgeView). with_step v step) view

-- callers see the step of a received frame, and get it if the bridge only counts its steps
pub taken : {v : BridgeView} (s : Inside) (steps : StepsView) (port : ℕ) (item : Item) (learnt : Option Learnt)
    (outcome : Outcome) (moved : Option Moved) (told : Option Step) → shown s ≡ v
    → Fits spanning_tree s.plan s.number s.steps.steps (Receive port item learnt outcome moved)
    → steps ≡ steps_with s.steps (Receive port item learnt outcome moved)
    → told ≡ given_back s.steps.is_kept (Receive port item learnt outcome moved)
    → HasTaken v port item told (shown (record s { steps = steps }))
taken {v} s steps port item learnt outcome moved told view fits e back =
    let step : Step = Receive port item learnt outcome moved in (
      learnt,
      outcome,
      moved,
      seen s steps step e view,
      subst (λ (b : BridgeView). Fits spanning_tree b.plan b.number b.steps step) view fits,
      back ∙ ap (λ (b : BridgeView). given_back b.is_kept step) view,
    )
