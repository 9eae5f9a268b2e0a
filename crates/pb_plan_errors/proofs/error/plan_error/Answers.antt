use Rattle.toml.specs.View.{table_view}
use Rattle.pb_plan_errors.proofs.Refusing.{first_error}
use Rattle.pb_plan_errors.proofs.error.plan_error.Goals as goal

pub returns-in-Some : goal.returns-in-Some
returns-in-Some c =
    first_error c.args.file.now (table_view c.in-Ok.document) c.in-Some.fault c.in_ok-document_error-in-Some.field-0
    c.in-Ok.ensures.ok (rw c.in-Some.is at c.in_ok-fault.ensures) c.in_ok-document_error-in-Some.ensures
