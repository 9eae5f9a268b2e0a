-- The fault that ends a command if a line cannot be read.
use Rattle.pb_lines.specs.declared.LineFault.{LineFault}
use Rattle.pb_lines.specs.declared.LineFault.TheVariants.{Read as line_unread, Memory as line_unheld}
use Rattle.pb_messages.specs.declared.fault.CommandFault.{CommandFault}
use Rattle.pb_messages.specs.declared.fault.CommandFault.TheVariants.{Read, Memory}

abbrev pub of_line : LineFault → CommandFault
of_line line_unread = Read
of_line line_unheld = Memory
