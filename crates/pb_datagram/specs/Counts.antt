-- The numbers of datagrams that were refused, by reason.
use Rattle.std.specs.Prelude.{ℕ}
use Rattle.pb_port.specs.Reading.{held_sum}
use Rattle.pb_datagram.specs.declared.drops.Refusals.{Refusals}
use Rattle.pb_datagram.specs.declared.refusal.Refusal.{Refusal}
use Rattle.pb_datagram.specs.declared.refusal.Refusal.TheVariants.{OtherSender, ShortHeader, UnsetFlag, OtherNetwork, ShortFrame}

-- the numbers before the first datagram
abbrev pub no_refusals : Refusals
no_refusals = record { other_sender = 0; short_header = 0; unset_flag = 0; other_network = 0; short_frame = 0 }

-- the number of datagrams that were refused for a reason
abbrev pub count_of : Refusal → Refusals → ℕ
count_of OtherSender counts = counts.other_sender
count_of ShortHeader counts = counts.short_header
count_of UnsetFlag counts = counts.unset_flag
count_of OtherNetwork counts = counts.other_network
count_of ShortFrame counts = counts.short_frame

-- the numbers after one more datagram was refused for a reason
abbrev pub counted : Refusal → Refusals → Refusals
counted OtherSender counts = record counts { other_sender = held_sum counts.other_sender 1 }
counted ShortHeader counts = record counts { short_header = held_sum counts.short_header 1 }
counted UnsetFlag counts = record counts { unset_flag = held_sum counts.unset_flag 1 }
counted OtherNetwork counts = record counts { other_network = held_sum counts.other_network 1 }
counted ShortFrame counts = record counts { short_frame = held_sum counts.short_frame 1 }
