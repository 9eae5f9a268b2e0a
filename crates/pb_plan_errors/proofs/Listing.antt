-- The errors of a file, one by one.
use Rattle.std.proofs.Common.{List, ℕ, [], ◌∷◌, ◌++◌}
use Rattle.std.specs.List.{AllByRecursion}
use Rattle.pb_diagnostics.specs.declared.diagnostic.Diagnostic.{Diagnostic}
use Rattle.toml.specs.View.{table_view}
use Rattle.pb_plan_errors.specs.Errors.{IsDocumentError, IsLaterError, HasErrors}
use Rattle.pb_plan_errors.specs.Repairs.{IsRefused}
use Rattle.pb_plan_errors.specs.declared.all.Refused.{Refused}

all_more : {X : Type 0} (P : X → Type 0) (xs : List X) (x : X) → AllByRecursion P xs → P x
    → AllByRecursion P (xs ++ x ∷ [])
all_more P [] x h p = (p, tt)
all_more P (y ∷ ys) x h p = (h.0, all_more P ys x h.1 p)

-- a later error is appended (used by `put_later`)
pub one_more : (file : List ℕ) (es : List Diagnostic) (e : Diagnostic) → HasErrors file es → IsLaterError file e
    → HasErrors file (es ++ e ∷ [])
one_more file [] e h l = absurd h
one_more file (x ∷ xs) e h l = (h.0, all_more (IsLaterError file) xs e h.1 l)

-- the error of a document that is refused is a later error (used by `put_later`)
pub later_error : (file : List ℕ) (r : Refused) (e : Diagnostic) → IsRefused r
    → IsDocumentError file (table_view r.document) r.fault e → IsLaterError file e
later_error file r e refused error = (
  table_view r.document,
  record {
    fault = r.fault;
    breaks = refused.breaks;
    not_memory = refused.not_memory;
    error = error;
  },
)
