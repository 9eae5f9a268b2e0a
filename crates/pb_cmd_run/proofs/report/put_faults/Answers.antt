use Rattle.std.proofs.Common.{length, string_bytes, ap}
use Rattle.pb_cmd_run.proofs.ReportLemmas.{told_status}
use Rattle.pb_cmd_run.proofs.report.put_faults.Goals as goal

pub returns-clause-status : goal.returns-clause-status
returns-clause-status c =
    told_status (string_bytes c.args.out.now) (string_bytes c.put_port_faults.new.out)
    (string_bytes c.put_memory_fault.new.out) _ _ _ _
    c.in_ok-put_port_faults.ensures c.in_ok-put_memory_fault.ensures (ap length c.as_bytes-before.ensures.value)
    (ap length c.as_bytes.ensures.value)
    c.if-as_bytes-before.false
