-- The BPDUs that are sent, given what is offered.
use Rattle.std.proofs.Common.{◌≡◌, ℕ, ◌≤◌, List, ◌++◌, sym, ap, ◌∙◌, map, length, drop, append-nil}
use Rattle.std.specs.List.{filter}
use Rattle.std.proofs.lemmas.List.{drop_all}
use Rattle.pb_bpdu.specs.declared.bpdu.Bpdu.{Bpdu}
use Rattle.pb_rstp.specs.Messages.{message}
use Rattle.pb_rstp.specs.Settling.{nows, is_sending, offer_by, sent}
use Rattle.pb_rstp.specs.declared.message.Offer.{Offer}
use Rattle.pb_rstp.specs.declared.moving.Moving.{Moving}
use Rattle.pb_rstp.specs.declared.port.Port.{Port}

-- the BPDUs that ports with this offer send, with their ports
abbrev pub sent_by : ℕ → Offer → List Port → List (ℕ × Bpdu)
sent_by id offer ports = map (λ p. (p.number, message id offer.root offer.times p)) (filter is_sending ports)

-- after the last port, all BPDUs are listed
pub sent_all : (id : ℕ) (offer : Offer) (ports : List Moving) (i : ℕ) (bpdus : List (ℕ × Bpdu)) → length ports ≤ i
    → offer ≡ offer_by id (nows ports)
    → bpdus ++ sent_by id offer (nows (drop i ports)) ≡ sent_by id offer (nows ports) → bpdus ≡ sent id (nows ports)
sent_all id offer ports i bpdus past is listed =
    sym (append-nil bpdus)
    ∙ ap (λ ms. bpdus ++ sent_by id offer (nows ms)) (sym (drop_all i ports past))
    ∙ listed ∙ ap (λ (o : Offer). sent_by id o (nows ports)) is
