-- What refuses a file refuses its document.
use Rattle.std.proofs.Common.{◌≡◌, ◌≢◌, ◌⊎◌, ◌∙◌, inl, inr, List, ℕ, Some, None, refl, sym, subst}
use Rattle.std.specs.Str.{IsUtf8}
use Rattle.toml.specs.Data.{Members}
use Rattle.toml.specs.Parse.{parse_document}
use Rattle.pb_diagnostics.specs.declared.diagnostic.Diagnostic.{Diagnostic}
use Rattle.pb_plan_errors.specs.Errors.{IsDocumentError, IsFaultOf, IsFirstError}
use Rattle.pb_service.specs.PlanFiles.{RefusesFile, Tells}
use Rattle.pb_service.specs.Refusals.{Refuses}
use Rattle.pb_service.specs.declared.fault.PlanFault.{PlanFault}
use Rattle.pb_service.specs.declared.fault.PlanFault.TheVariants.{Utf8, Toml, Missing, Kind, Range, Unknown, Twice}
use Rattle.pb_service.specs.declared.fault.PlanFault.TheVariants.{NoSuch, LinkEnd, TooMany, Memory}

same_document : (d e : Members) → Some d ≡ Some e → d ≡ e
same_document d e h = cc

refused_by : (file : List ℕ) (d : Members) (fault : PlanFault) → parse_document file ≡ Some d → fault ≢ Memory
    → (fault ≡ Memory) ⊎ Tells file (λ document. Refuses document fault) → Refuses d fault
refused_by file d fault p m (inl e) = absurd (m e)
refused_by file d fault p m (inr t) =
    let P : Members → Type 0 = λ x. Refuses x fault in subst P (same_document t.0 d (sym t.1 ∙ p)) t.2

-- a rule that a file breaks is one that its document breaks (used by `plan_error` and `read`)
pub refused_document : (file : List ℕ) (d : Members) (fault : PlanFault) → IsUtf8 file → parse_document file ≡ Some d
    → fault ≢ Memory → RefusesFile file fault → Refuses d fault
refused_document file d Utf8 u p m r = absurd (r u)
refused_document file d Toml u p m r = let e : Some d ≡ None = sym p ∙ r in cc
refused_document file d Memory u p m r = absurd (m refl)
refused_document file d (Missing x) u p m r = refused_by file d (Missing x) p m r
refused_document file d (Kind x) u p m r = refused_by file d (Kind x) p m r
refused_document file d (Range x) u p m r = refused_by file d (Range x) p m r
refused_document file d (Unknown x) u p m r = refused_by file d (Unknown x) p m r
refused_document file d (Twice x) u p m r = refused_by file d (Twice x) p m r
refused_document file d (NoSuch x) u p m r = refused_by file d (NoSuch x) p m r
refused_document file d LinkEnd u p m r = refused_by file d LinkEnd p m r
refused_document file d TooMany u p m r = refused_by file d TooMany p m r

-- the error of the document of a file is its first error (used by `plan_error`)
pub first_error : (file : List ℕ) (d : Members) (fault : PlanFault) (e : Diagnostic)
    → IsUtf8 file × (parse_document file ≡ Some d) → IsFaultOf file fault → IsDocumentError file d fault e
    → IsFirstError file e
first_error file d fault e read broken error =
    inr (
      d,
      read.1,
      record {
        fault = fault;
        breaks = refused_document file d fault read.0 read.1 broken.0 broken.1;
        not_memory = broken.0;
        error = error;
      },
    )
