-- The printed counts of customer ports and links.
use Rattle.std.specs.Prelude.{◌≡◌, ℕ, ◌+◌, List, [], ◌∷◌, ◌++◌, Some, None, map, flat_map, codes, IsPermutation}
use Rattle.std.specs.Cmp.Lexicographic.{slice_cmp}
use Rattle.std.specs.Fmt.{decimal}
use Rattle.std.specs.List.{count_by}
use Rattle.std.specs.List.Sorted.{IsSortedByKey}
use Rattle.std.specs.Ordering.{nat_cmp}
use Rattle.std.specs.declared.option.Option.{Option}
use Rattle.pb_lan.specs.Numbering.{numbered}
use Rattle.pb_lan.specs.Records.{steps_of, lane_ab, lane_ba}
use Rattle.pb_lan.specs.declared.plan.Plan.{Plan}
use Rattle.pb_lan.specs.declared.plan.CustomerPlan.{CustomerPlan}
use Rattle.pb_lan.specs.declared.record.Record.{Record}
use Rattle.pb_history.specs.Passages.{is_poll, is_departure, is_filtered, is_take, is_loss}

-- the number of frames of a customer port that its bridge filtered
abbrev pub filtered_at : Record → Option CustomerPlan → ℕ
filtered_at rec None = 0
filtered_at rec (Some c) = count_by (is_filtered c.port) (steps_of rec.bridges c.bridge)

-- the line of a customer port, by its name and number
abbrev pub port_line : Plan → Record → (List ℕ × ℕ) → List ℕ
port_line plan rec port =
    codes "port " ++ port.0 ++ codes " entered " ++ decimal (count_by is_poll (steps_of rec.customers port.1))
    ++ codes " left " ++ decimal (count_by is_departure (steps_of rec.customers port.1))
    ++ codes " filtered " ++ decimal (filtered_at rec (numbered plan.customers port.1)) ++ 10 ∷ []

-- the line of a link, by its name and number
abbrev pub link_line : Record → (List ℕ × ℕ) → List ℕ
link_line rec link =
    codes "link " ++ link.0
    ++ codes " ab taken " ++ decimal (count_by is_take (steps_of rec.lanes (lane_ab link.1))) ++ codes " lost " ++ decimal (count_by is_loss (steps_of rec.lanes (lane_ab link.1)))
    ++ codes " ba taken " ++ decimal (count_by is_take (steps_of rec.lanes (lane_ba link.1))) ++ codes " lost " ++ decimal (count_by is_loss (steps_of rec.lanes (lane_ba link.1)))
    ++ 10 ∷ []

-- names with their numbers, counted from k
abbrev pub with_numbers : ℕ → List (List ℕ) → List (List ℕ × ℕ)
with_numbers k [] = []
with_numbers k (name ∷ names) = (name, k) ∷ with_numbers (k + 1) names

-- names with their numbers, sorted by the octets of the names
pub record AreByName (names : List (List ℕ)) (sorted : List (List ℕ × ℕ)) : Type 0 where
  pub same : IsPermutation (with_numbers 1 names) sorted
  pub by_name : IsSortedByKey (λ n. n.0) (slice_cmp nat_cmp) sorted

-- a line for each customer port, and then one for each link, both sorted by name
pub record IsCountsText (plan : Plan) (rec : Record) (text : List ℕ) : Type 0 where
  pub ports : List (List ℕ × ℕ)
  pub are_ports : AreByName (map (λ c. c.name) plan.customers) ports
  pub links : List (List ℕ × ℕ)
  pub are_links : AreByName (map (λ l. l.name) plan.links) links
  pub text_is : text ≡ flat_map (port_line plan rec) ports ++ flat_map (link_line rec) links
