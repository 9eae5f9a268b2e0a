-- The faults of a conversation by those of the line reader.
use Rattle.pb_lines.specs.declared.LineFault.{LineFault}
use Rattle.pb_lines.specs.declared.LineFault.TheVariants.{Read as line_unread, Memory as line_unheld}
use Rattle.pb_cmd_control.specs.declared.fault.ControlFault.{ControlFault}
use Rattle.pb_cmd_control.specs.declared.fault.ControlFault.TheVariants.{Input, Memory}

abbrev pub of_line : LineFault → ControlFault
of_line line_unread = Input
of_line line_unheld = Memory
