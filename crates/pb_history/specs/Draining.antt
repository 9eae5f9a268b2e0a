-- Customers' frames that enter, are copied, and leave.
use Rattle.std.specs.Prelude.{◌≡◌, ◌≤◌, ◌<◌, ◌*◌, ◌^◌, ℕ, Bool, true, false, List, Some, None, ◌==◌, ◌&&◌, not, length, if◌then◌else◌}
use Rattle.std.specs.declared.option.Option.{Option}
use Rattle.std.specs.List.{count_by, list_any, sum_by}
use Rattle.pb_lan.specs.Ports.{local_ports}
use Rattle.pb_lan.specs.Queues.{is_refused}
use Rattle.pb_lan.specs.declared.step.Item.{Item}
use Rattle.pb_lan.specs.declared.step.Mark.{Mark}
use Rattle.pb_lan.specs.declared.step.Outcome.{Outcome}
use Rattle.pb_lan.specs.declared.step.Outcome.TheVariants.{Relayed, Filtered, Heard}
use Rattle.pb_lan.specs.declared.step.Step.{Step}
use Rattle.pb_lan.specs.declared.step.Step.TheVariants.{Poll, Deliver, Receive, Take}

abbrev pub is_some_mark : Option Mark → Bool
is_some_mark None = false
is_some_mark (Some mark) = true

-- the item is a customer's frame
abbrev pub is_marked : Item → Bool
is_marked item = is_some_mark item.mark

-- a copy of the received frame was queued at the port
abbrev pub gets_copy : Outcome → ℕ → Bool
gets_copy (Relayed chosen refused) port = list_any (λ p. p == port) chosen && not (is_refused refused port)
gets_copy (Filtered reason) port = false
gets_copy Heard port = false

-- the number of customers' frames that a step adds: one that entered, or the copies of one that was received
abbrev pub gain : Step → ℕ
gain (Poll item) = if is_marked item then 1 else 0
gain (Receive port item learnt outcome moved) = if is_marked item then count_by (gets_copy outcome) local_ports else 0
gain _ = 0

-- the number of customers' frames that a step removes: one that was received, lost or delivered
abbrev pub loss : Step → ℕ
loss (Receive port item learnt outcome moved) = if is_marked item then 1 else 0
loss (Take number item lost) = if is_marked item && lost then 1 else 0
loss (Deliver item gone) = if is_marked item then 1 else 0
loss _ = 0

-- the counts of added and removed frames are right and within their bounds
pub record AreBalanced (items : List Step) (gained parted : ℕ) : Type 0 where
  pub gains : gained ≡ sum_by gain items
  pub losses : parted ≡ sum_by loss items
  pub few : gained ≤ 16 * length items
  pub fewer : parted ≤ length items
  pub short : length items < 2 ^ 64
