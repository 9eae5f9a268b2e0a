-- The taps of a document, and when one is refused.
use Rattle.std.proofs.Common.{◌≡◌, ℕ, List, Some, Result, Err, IfErr, subst}
use Rattle.std.specs.Prelude.{slice_get}
use Rattle.std.specs.List.{AllZip}
use Rattle.toml.specs.Data.{Members}
use Rattle.pb_lan.specs.declared.limits.Limits.{Limits}
use Rattle.pb_service.specs.declared.fault.PlanFault.{PlanFault}
use Rattle.pb_service.specs.declared.section.Section.TheVariants.{Link, Tap}
use Rattle.pb_service.specs.declared.tap.TapSpec.{TapSpec}
use Rattle.pb_service.specs.Formats.{tap_keys}
use Rattle.pb_service.specs.Refusals.{Refuses, RefusesTap, network_limits, names_of, in_tap}
use Rattle.pb_service.specs.Tables.{IsRead}
use Rattle.pb_service.specs.Taps.{IsTapOf}
use Rattle.pb_service.specs.Told.{rows_of}

-- the fault of a tap refuses the document (used by `read_taps`)
pub tap_passed : {X : Type 0} (document : Members) (links : List (List ℕ)) (limits : Limits) (index : ℕ)
    (row : Members) (r : Result X PlanFault) (e : PlanFault)
    → links ≡ names_of document Link → limits ≡ network_limits document
    → slice_get (rows_of document Tap) index ≡ Some row → ((y : PlanFault) × (r ≡ Err y) × (y ≡ e))
    → RefusesTap links limits index row e → IfErr r (Refuses document)
tap_passed document links limits index row r e names told at p h =
    rw (p.1, p.2) (in_tap document index row e at
    (subst (λ l. RefusesTap (names_of document Link) l index row e) told
    (subst (λ ns. RefusesTap ns limits index row e) names h)))

-- the taps of all tables, with the names and limits of the document (used by `read_taps`)
pub taps_whole : (document : Members) (links : List (List ℕ)) (limits : Limits) (taps : List TapSpec)
    → links ≡ names_of document Link → limits ≡ network_limits document
    → AllZip (IsRead (IsTapOf links limits) tap_keys) (rows_of document Tap) taps
    → AllZip (IsRead (IsTapOf (names_of document Link) (network_limits document)) tap_keys) (rows_of document Tap) taps
taps_whole document links limits taps names told all = rw (← told, ← names) all
