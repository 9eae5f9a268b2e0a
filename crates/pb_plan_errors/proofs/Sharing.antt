-- Findings with another key.
use Rattle.std.proofs.Common.{◌≡◌, ◌<◌, List, ℕ, Some, refl, subst}
use Rattle.std.specs.Borrow.{Bor}
use Rattle.std.specs.Prelude.{All, Contains}
use Rattle.toml.specs.Data.{Members}
use Rattle.pb_diagnostics.specs.declared.site.Site.TheVariants.{RowKey}
use Rattle.pb_plan_errors.specs.Findings.{HasRow, HasWord, IsAgain, IsShared}
use Rattle.pb_plan_errors.specs.Uses.{IsUse}
use Rattle.pb_plan_errors.specs.declared.ends.PortUse.{PortUse}
use Rattle.pb_plan_errors.specs.declared.finding.Finding.{Finding}

-- two uses of the same local port are shown by their keys (used by `shared_with`)
pub shared_sites : (document : Members) (u v : PortUse) → IsUse document u → IsUse document v
    → v.bridge.now ≡ u.bridge.now → v.port ≡ u.port
    → IsShared document (RowKey u.word u.index u.key) (Some (RowKey v.word v.index v.key))
shared_sites document u v a b bridge port = (
  v.bridge.now,
  v.port,
  (a.row, a.row_is, (rw bridge a.bridge, rw port a.port)),
  (b.row, b.row_is, (b.bridge, b.port)),
)

pub shared_finding : (document : Members) (f : Finding) (u v : PortUse)
    → f.about ≡ RowKey u.word u.index u.key → f.other ≡ Some (RowKey v.word v.index v.key)
    → IsUse document u → IsUse document v → v.bridge.now ≡ u.bridge.now → v.port ≡ u.port
    → IsShared document f.about f.other
shared_finding document f u v about other a b bridge port =
    rw (about, other) (shared_sites document u v a b bridge port)

-- what holds of each thing of a list holds of one of them (used by `shared_with`)
pub all_contained : {X : Type 0} (P : X → Type 0) (xs : List X) (x : X) → All P xs → Contains xs x → P x
all_contained P xs x h c = subst P c.2 (h c.0 x c.1)

-- the same value of two tables (used by `twice_in`)
pub again_finding : (document : Members) (text : List ℕ) (f : Finding) (word key : Bor (List ℕ)) (first second : ℕ)
    → f.about ≡ RowKey word second key → f.other ≡ Some (RowKey word first key) → first < second
    → HasRow document word.now first (HasWord key.now text) → HasRow document word.now second (HasWord key.now text)
    → IsAgain document text f.about f.other
again_finding document text f word key first second about other l g h = rw (about, other) (refl, refl, l, h, g)
