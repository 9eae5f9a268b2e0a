-- The operations before a fault (used by `open_apart`).
use Rattle.std.proofs.Common.{◌≡◌, Bool, Option, Result, Ok, Err, IfErr, MatchResult, List, map, ◌∙◌, subst}
use Rattle.std.specs.List.{flat_map}
use Rattle.pb_run_ports.specs.Addresses.{Admits}
use Rattle.pb_run_ports.specs.Deeds.{Adds, HasBegun}
use Rattle.pb_run_ports.specs.OpenFaults.{IsUnopened, IsUnemptied}
use Rattle.pb_run_ports.specs.Opened.{Shown, asked, deeds_of, emptied, entering, openings_of, written}
use Rattle.pb_run_ports.specs.Opened.{HasStopped, StopsUnadmitted}
use Rattle.pb_run_ports.specs.declared.deed.Deed.{Deed}
use Rattle.pb_run_ports.specs.declared.open_fault.OpenFault.{OpenFault}
use Rattle.pb_run_ports.specs.declared.open_fault.OpenFault.TheVariants.{Unopened, Unemptied, Shared, Exposed, Memory}
use Rattle.pb_run_ports.proofs.DeedLemmas.{Adds-trans, has_begun_front, has_begun_after}
use Rattle.pb_service.specs.declared.port_spec.PortSpec.{PortSpec}

-- the fault came while files and sockets were opened
pub stops_opening : (e : OpenFault) (a b : Option (List Deed)) (specs : List PortSpec) → IsUnopened e
    → HasBegun a b (openings_of specs) → HasStopped e a b specs
stops_opening (Unopened fault) a b specs is begun = begun
stops_opening Memory a b specs is begun = begun
stops_opening (Unemptied fault) a b specs is begun = absurd is
stops_opening (Shared file) a b specs is begun = absurd is
stops_opening (Exposed port) a b specs is begun = absurd is

-- the fault came while files were emptied
pub stops_emptying : (e : OpenFault) (a b : Option (List Deed)) (specs : List PortSpec) → IsUnemptied e
    → HasBegun a b (deeds_of specs) → HasStopped e a b specs
stops_emptying (Unopened fault) a b specs is begun = absurd is
stops_emptying Memory a b specs is begun = absurd is
stops_emptying (Unemptied fault) a b specs is begun = begun
stops_emptying (Shared file) a b specs is begun = absurd is
stops_emptying (Exposed port) a b specs is begun = absurd is

-- the fault came while files to read and sockets were opened
pub stops_in : (e : OpenFault) (a b : Option (List Deed)) (specs : List PortSpec)
    → IsUnopened e × HasBegun a b (flat_map entering specs) → HasStopped e a b specs
stops_in e a b specs (is, begun) = stops_opening e a b specs is
    (has_begun_front a b (flat_map entering specs) (written (map asked specs)) begun)

-- the fault came while files to write were opened
pub stops_out : (e : OpenFault) (a b c : Option (List Deed)) (specs : List PortSpec) (ports : List Shown)
    → Adds a b (flat_map entering specs) → ports ≡ map asked specs
    → IsUnopened e × HasBegun b c (written ports) → HasStopped e a c specs
stops_out e a b c specs ports ins same (is, begun) =
    let outs : HasBegun b c (written (map asked specs)) = subst (λ shown. HasBegun b c (written shown)) same begun in
    stops_opening e a c specs is (has_begun_after a b c (flat_map entering specs) (written (map asked specs)) ins outs)

-- all openings were done
pub all_open : (a b c : Option (List Deed)) (specs : List PortSpec) (ports : List Shown)
    → Adds a b (flat_map entering specs) → ports ≡ map asked specs
    → Adds b c (written ports) → Adds a c (openings_of specs)
all_open a b c specs ports ins same outs =
    Adds-trans a b c (flat_map entering specs) (written (map asked specs)) ins
    (subst (λ shown. Adds b c (written shown)) same outs)

-- the fault came at a file to empty, with all open
pub stops_last : (e : OpenFault) (a b c d : Option (List Deed)) (specs : List PortSpec) (ports whole : List Shown)
    → Adds a b (flat_map entering specs) → ports ≡ map asked specs
    → Adds b c (written ports) → whole ≡ ports → IsUnemptied e × HasBegun c d (emptied whole) → HasStopped e a d specs
stops_last e a b c d specs ports whole ins same outs alike (is, begun) =
    let emptying : HasBegun c d (emptied (map asked specs)) = subst (λ shown. HasBegun c d (emptied shown))
    (alike ∙ same) begun in
    stops_emptying e a d specs is (has_begun_after a c d (openings_of specs) (emptied (map asked specs))
    (all_open a b c specs ports ins same outs) emptying)

-- all operations were done
pub all_done : (a b c d : Option (List Deed)) (specs : List PortSpec) (ports whole : List Shown)
    → Adds a b (flat_map entering specs) → ports ≡ map asked specs
    → Adds b c (written ports) → whole ≡ ports → Adds c d (emptied whole) → Adds a d (deeds_of specs)
all_done a b c d specs ports whole ins same outs alike last =
    Adds-trans a c d (openings_of specs) (emptied (map asked specs)) (all_open a b c specs ports ins same outs)
    (subst (λ shown. Adds c d (emptied shown)) (alike ∙ same) last)

-- a fault that came after the check of the addresses
pub stops_admitted : (e : OpenFault) (a b : Option (List Deed)) (specs : List PortSpec) (allows_network : Bool)
    → HasStopped e a b specs → Admits allows_network specs → StopsUnadmitted e allows_network specs
stops_admitted (Unopened fault) a b specs allows_network stopped admits = admits
stops_admitted (Unemptied fault) a b specs allows_network stopped admits = admits
stops_admitted Memory a b specs allows_network stopped admits = admits
stops_admitted (Shared file) a b specs allows_network stopped admits = admits
stops_admitted (Exposed port) a b specs allows_network stopped admits = absurd stopped

-- the result of an opening that began after the check of the addresses
pub result_admitted : {T : Type 0} (r : Result T OpenFault) (a b : Option (List Deed)) (specs : List PortSpec)
    (allows_network : Bool)
    → IfErr r (λ e. HasStopped e a b specs) → Admits allows_network specs
    → MatchResult r (λ _. Admits allows_network specs) (λ e. StopsUnadmitted e allows_network specs)
result_admitted (Ok ports) a b specs allows_network stopped admits = admits
result_admitted (Err e) a b specs allows_network stopped admits =
    stops_admitted e a b specs allows_network stopped admits
