-- What each port gave and took, in lists of ports.
use Rattle.std.proofs.Common.{◌≡◌, ◌≤◌, ℕ, zero, suc, List, [], ◌∷◌, All, Some, None, map, length}
use Rattle.std.proofs.Common.{refl, sym, ap, subst, ◌∙◌, append-nil}
use Rattle.std.proofs.lemmas.List.{length-map}
use Rattle.std.proofs.lemmas.List.Elements.{All-head, All-tail, All-nil}
use Rattle.std.proofs.lemmas.Simd.{map-map}
use Rattle.std.specs.declared.option.Option.{Option}
use Rattle.pb_lan.specs.declared.step.Step.{Step}
use Rattle.pb_lan.specs.declared.plan.Plan.{Plan}
use Rattle.pb_port.proofs.OutputLemmas.{written_none}
use Rattle.pb_run.specs.Gifts.{AreAccesses}
use Rattle.pb_workers.specs.declared.gift.AccessGift.{AccessGift}
use Rattle.pb_workers.specs.Ports.{Frames, PortFrames, in_front, HasRead, KeepsPort}
use Rattle.pb_lan.specs.Records.{steps_of}
use Rattle.pb_run.specs.Runs.{ArePortsKept, no_port, port_of, last_of}
use Rattle.pb_workers.specs.declared.access.Last.{Last}
use Rattle.pb_workers.specs.declared.access.Last.TheVariants.{More}

-- a port that has given and taken nothing
nothing_given : (o : Option Frames) → o ≡ in_front [] o
nothing_given None = refl
nothing_given (Some frames) = refl

nothing_read : (unread : Option Frames) → HasRead More unread [] unread
nothing_read None = tt
nothing_read (Some frames) = (refl, tt)

fresh : (port : PortFrames) → KeepsPort port port [] More
fresh port = record {
  given = sym (append-nil port.given);
  tally = sym (append-nil port.tally);
  script = nothing_given port.script;
  used_up = tt;
  unsent = record { sent = []; both = sym (append-nil port.waiting) };
  read = nothing_read port.unread;
  wrote = ∣ written_none port.output ∣₁;
  gone = λ on. All-nil (λ (f : List ℕ). 65536 ≤ length f);
}

module _ {X P : Type 0} (view : P → PortFrames) (was port : X → P) (steps : X → List Step) (last : X → Last) where
  abbrev Keeps : X → Type 0
  Keeps w = KeepsPort (view (was w)) (view (port w)) (steps w) (last w)

  abbrev AreKept : List X → ℕ → Type 0
  AreKept ws number =
      KeepsPort (port_of (map view (map was ws)) number) (port_of (map view (map port ws)) number)
      (steps_of (map steps ws) number) (last_of (map last ws) number)

  kept_by : (ws : List X) → All Keeps ws → (number : ℕ) → AreKept ws number
  kept_by ws all zero = fresh no_port
  kept_by [] all (suc r) = fresh no_port
  kept_by (w ∷ ws) all (suc zero) = All-head Keeps w ws all
  kept_by (w ∷ ws) all (suc (suc r)) = kept_by ws (All-tail Keeps w ws all) (suc r)

  pub kept_ports : (ws : List X) → All Keeps ws
      → ArePortsKept (map view (map was ws)) (map view (map port ws)) (map steps ws) (map last ws)
  kept_ports ws all = record {
    port_count = length-map (map port ws) view ∙ length-map ws port
        ∙ sym (length-map (map was ws) view ∙ length-map ws was);
    last_count = length-map ws last ∙ sym (length-map (map was ws) view ∙ length-map ws was);
    kept = kept_by ws all;
  }

  -- what ports gave and took, for the lists of ports, steps and poll results that come back
  pub kept_back : (ws : List X) (before after : List P) (customers : List (List Step)) (lasts : List Last)
      → map was ws ≡ before → after ≡ map port ws → customers ≡ map steps ws → lasts ≡ map last ws → All Keeps ws
      → ArePortsKept (map view before) (map view after) customers lasts
  kept_back ws before after customers lasts eb ea ec el all = rw (el, ec, ea, ← eb) (kept_ports ws all)

-- the images of items, through the images of what they were given
through : {X G Y : Type 0} (given : X → G) (seen : G → Y) (shown : X → Y) (ws : List X)
    → ((w : X) → shown w ≡ seen (given w)) → map shown ws ≡ map seen (map given ws)
through given seen shown [] same = refl
through given seen shown (w ∷ ws) same = let here = same w in let rest = through given seen shown ws same in cc

-- images stay the same if what the items were given stays the same
pub seen_through : {X G Y : Type 0} (given : X → G) (seen : G → Y) (shown : X → Y) (ws olds : List X)
    → ((w : X) → shown w ≡ seen (given w)) → map given ws ≡ map given olds → map shown ws ≡ map shown olds
seen_through given seen shown ws olds same e = through given seen shown ws same ∙ ap (map seen) e
    ∙ sym (through given seen shown olds same)

pub of_parts : {X Y Z : Type 0} (part : X → Y) (shown : Y → Z) (ws : List X) (ys : List Y) → ys ≡ map part ws
    → map shown ys ≡ map (λ w. shown (part w)) ws
of_parts part shown ws ys e = ap (map shown) e ∙ map-map shown part ws

pub keeps_fresh : {P : Type 0} (view : P → PortFrames) (was port : P) (steps : List Step) (last : Last)
    → was ≡ port → steps ≡ [] → last ≡ More → KeepsPort (view was) (view port) steps last
keeps_fresh view was port steps last same none more = rw (same, none, more) (fresh (view port))

-- as many workers come back as there were ports
pub as_many : {X G P : Type 0} (given : X → G) (port : X → P) (ws olds : List X) (ports : List P)
    → map given ws ≡ map given olds → map port olds ≡ ports
    → length ws ≡ length ports
as_many given port ws olds ports kept are = sym (length-map ws given) ∙ ap length kept ∙ length-map olds given
    ∙ sym (length-map olds port) ∙ ap length are

-- the accesses that come back keep their numbers
pub accesses_back : {X D G : Type 0} (given : X → G) (ws olds : List X) (after : List D) (before : List AccessGift)
    (access : X → D) (gift : D → AccessGift) (plan : Plan) (n : ℕ)
    → map given ws ≡ map given olds → after ≡ map access ws → map (λ w. gift (access w)) olds ≡ before
    → (seen : G → AccessGift) → ((w : X) → gift (access w) ≡ seen (given w))
    → AreAccesses plan n before → AreAccesses plan n (map gift after)
accesses_back given ws olds after before access gift plan n kept parts was seen same are =
    let all : map gift after ≡ before = of_parts access gift ws after parts
    ∙ seen_through given seen (λ w. gift (access w)) ws olds same kept ∙ was in
    subst (λ gs. AreAccesses plan n gs) (sym all) are

-- what each port gave and took in a run
pub run_kept : {X P D G : Type 0} (view : P → PortFrames) (given : X → G) (ws olds : List X)
    (before after : List P) (accesses : List D) (customers : List (List Step)) (lasts : List Last)
    (was port : X → P) (access : X → D) (steps : D → List Step) (last : X → Last)
    → map given ws ≡ map given olds → map was olds ≡ before → after ≡ map port ws → accesses ≡ map access ws
    → customers ≡ map steps accesses → lasts ≡ map last ws
    → (seen : G → P) → ((w : X) → was w ≡ seen (given w))
    → All (λ w. KeepsPort (view (was w)) (view (port w)) (steps (access w)) (last w)) ws
    → ArePortsKept (map view before) (map view after) customers lasts
run_kept view given ws olds before after accesses customers lasts was port access steps last kept ports ports_now parts
    list said seen same all =
    kept_back view was port (λ w. steps (access w)) last ws before after customers lasts
    (seen_through given seen was ws olds same kept ∙ ports) ports_now (list ∙ of_parts access steps ws accesses parts)
    said all
