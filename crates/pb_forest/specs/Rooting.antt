-- Parents and depths from the removed bridges.
use Rattle.std.specs.Prelude.{◌≡◌, ℕ, ◌+◌, ◌<◌, List, [], ◌∷◌, Some, None, slice_get, length, ◌==◌, if◌then◌else◌}
use Rattle.std.specs.declared.option.Option.{Option}
use Rattle.pb_forest.specs.declared.graph.Branch.{Branch}
use Rattle.pb_lan.specs.declared.shape.Rooted.{Rooted}

-- the number of the link that leads up from the bridge
abbrev pub way_up : List Branch → ℕ → Option ℕ
way_up [] x = None
way_up (b ∷ bs) x = if b.bridge == x then Some (b.link + 1) else way_up bs x

-- the depth of a bridge below those that were removed later, or never
abbrev pub depth_below : List Branch → ℕ → ℕ
depth_below [] x = 0
depth_below (b ∷ bs) x = if b.bridge == x then depth_below bs b.above + 1 else depth_below bs x

-- each bridge has its parent link and its depth
pub record IsRootedBy (bridges : ℕ) (branches : List Branch) (rooted : Rooted) : Type 0 where
  pub ups : length rooted.up ≡ bridges
  pub depths : length rooted.depth ≡ bridges
  pub up : (x : ℕ) → x < bridges → slice_get rooted.up x ≡ Some (way_up branches x)
  pub depth : (x : ℕ) → x < bridges → slice_get rooted.depth x ≡ Some (depth_below branches x)

-- the branch is of these bridges, and its link has an index below 255
pub record IsNear (bridges : ℕ) (b : Branch) : Type 0 where
  pub bridge : b.bridge < bridges
  pub above : b.above < bridges
  pub link : b.link < 255
