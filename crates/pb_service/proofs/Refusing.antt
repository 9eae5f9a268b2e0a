-- Refusals of documents, as the readers of tables need them.
use Rattle.std.proofs.Common.{◌≡◌, ℕ, ◌<◌, true, List, length, get_or, map, take, Some, Result}
use Rattle.std.proofs.Common.{Ok, Err, IfErr, Bor, BTreeMap, Global, String, sym, ap, ◌∙◌, inl, inr}
use Rattle.std.specs.Prelude.{◌⊎◌, slice_get, codes}
use Rattle.std.proofs.lemmas.List.{length-map, take-map}
use Rattle.std.proofs.lemmas.Option.{slice_get-map, slice_get-get_or}
use Rattle.std.specs.Option.{option_map}
use Rattle.toml.specs.Data.{Members, get_member}
use Rattle.toml.specs.View.{table_view}
use Rattle.toml.specs.declared.value.Value.{Value}
use Rattle.pb_service.specs.declared.fault.PlanFault.{PlanFault}
use Rattle.pb_service.specs.declared.fault.PlanFault.TheVariants.{Memory, Twice}
use Rattle.pb_service.specs.declared.network.Network.{Network as NetworkValue}
use Rattle.pb_service.specs.declared.section.Section.{Section}
use Rattle.pb_service.specs.Told.{rows_of, table_told}
use Rattle.pb_service.specs.Tables.{text_at, is_one_of}
use Rattle.pb_service.specs.Refusals.{Refuses, RefusesNetwork, RefusesTable, names_of, no_memory, in_network}
use Rattle.pb_service.specs.Refusals.{in_table, same_name}

-- an allocation failed, or the document has the fault
pub either : (document : Members) (e f : PlanFault) → (e ≡ Memory) ⊎ (e ≡ f) → Refuses document f → Refuses document e
either document e f (inl m) h = rw m (no_memory document)
either document e f (inr t) h = rw t h

pub network_refused : (document row : Members) (r : Result NetworkValue PlanFault)
    → row ≡ table_told (get_member (codes "network") document)
    → IfErr r (RefusesNetwork row) → IfErr r (Refuses document)
network_refused document row (Ok n) e h = tt
network_refused document row (Err f) e h = in_network document f (rw (← e) h)

-- a table, as the document's map has it
abbrev pub Table : Type 0
Table = BTreeMap (String Global) Value

pub row_at : (document : Members) (section : Section) (rows : List (Bor Table)) (i : ℕ) (d x : Bor Table)
    → map (λ t. table_view t.now) rows ≡ rows_of document section → i < length rows
    → x ≡ get_or rows i d → slice_get (rows_of document section) i ≡ Some (table_view x.now)
row_at document section rows i d x e h is = ap (λ xs. slice_get xs i) (sym e)
    ∙ slice_get-map (λ t. table_view t.now) rows i
    ∙ ap (option_map (λ t. table_view t.now)) (slice_get-get_or rows i d h ∙ ap (λ t. Some t) (sym is))

table_refused : (document : Members) (section : Section) (names : List (List ℕ)) (i : ℕ) (row : Members) (e : PlanFault)
    → names ≡ names_of document section → slice_get (rows_of document section) i ≡ Some row
    → RefusesTable section names i row e → Refuses document e
table_refused document section names i row e en at (inl keys) = in_table document section i row e at keys
table_refused document section names i row e en at (inr (told, again)) =
    rw told (same_name document section i row at (rw (← en) again))

-- the fault that a `?` returns
pub passed_on : {X : Type 0} (P : PlanFault → Type 0) (r : Result X PlanFault) (e : PlanFault)
    → ((y : PlanFault) × (r ≡ Err y) × (y ≡ e)) → P e → IfErr r P
passed_on P r e p h = rw (p.1, p.2) h

pub long_rows : (document : Members) (section : Section) (rows : List (Bor Table))
    → map (λ t. table_view t.now) rows ≡ rows_of document section → length (rows_of document section) ≡ length rows
long_rows document section rows e = rw (← e) (length-map rows (λ t. table_view t.now))

-- the fault of a table refuses the document
pub table_passed : {X : Type 0} (document : Members) (section : Section) (names : List (List ℕ)) (i : ℕ)
    (row : Members) (r : Result X PlanFault) (e : PlanFault)
    → names ≡ names_of document section → slice_get (rows_of document section) i ≡ Some row
    → ((y : PlanFault) × (r ≡ Err y) × (y ≡ e)) → RefusesTable section names i row e → IfErr r (Refuses document)
table_passed document section names i row r e en at p h =
    rw (p.1, p.2) (table_refused document section names i row e en at h)

-- a failed allocation refuses the document
pub memory_passed : {X : Type 0} (document : Members) (r : Result X PlanFault) (e : PlanFault)
    → ((y : PlanFault) × (r ≡ Err y) × (y ≡ e)) → e ≡ Memory → IfErr r (Refuses document)
memory_passed document r e p m = rw (p.1, p.2, m) (no_memory document)

-- the table has the name of an earlier one (used by `check_row`)
pub name_again : (section : Section) (names : List (Bor (List ℕ))) (index : ℕ) (row : Members) (name : List ℕ)
    (e : PlanFault) → name ≡ text_at row (codes "name")
    → (e ≡ Memory) ⊎ (e ≡ Twice name) → is_one_of (map (λ n. n.now) (take index names)) name ≡ true
    → RefusesTable section (map (λ n. n.now) names) index row e
name_again section names index row name e same (inl m) again = inl (rw m tt)
name_again section names index row name e same (inr t) again =
    inr (t ∙ ap Twice same, rw (take-map (λ n. n.now) index names, ← same) again)
