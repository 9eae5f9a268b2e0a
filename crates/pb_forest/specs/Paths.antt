-- The way up in a forest, and the path between two bridges.
use Rattle.std.specs.Prelude.{◌≡◌, ℕ, ◌++◌, Bool, true, false, List, [], ◌∷◌, Some, None, unwrap_or, ◌==◌, if◌then◌else◌}
use Rattle.std.specs.declared.option.Option.{Option}
use Rattle.pb_lan.specs.Forests.{IsPath, AreJoined, Shows}
use Rattle.pb_lan.specs.Numbering.{numbered}
use Rattle.pb_lan.specs.declared.plan.Plan.{Plan}
use Rattle.pb_lan.specs.declared.plan.LinkPlan.{LinkPlan}
use Rattle.pb_lan.specs.declared.shape.Shape.{Shape}
use Rattle.pb_lan.specs.declared.shape.Rooted.{Rooted}

-- the number of links between the bridge and its root
abbrev pub depth_of : Rooted → ℕ → ℕ
depth_of rooted bridge = unwrap_or (numbered rooted.depth bridge) 0

-- the bridge at the other end of the link, or the same bridge if there is no such link
abbrev pub across : ℕ → Option LinkPlan → ℕ
across bridge None = bridge
across bridge (Some link) = if link.a.bridge == bridge then link.b.bridge else link.a.bridge

-- the link leads up from the bridge
abbrev pub HasUp : Rooted → ℕ → ℕ → Type 0
HasUp rooted bridge number = numbered rooted.up bridge ≡ Some (Some number)

-- a climb from a bridge takes the link that leads up, if there is one
abbrev pub Climbs : Plan → Rooted → ℕ → List ℕ → ℕ → List ℕ → Bool → Type 0
Climbs plan rooted bridge links above more true =
    (number : ℕ) × HasUp rooted bridge number × (above ≡ across bridge (numbered plan.links number)) × (more ≡ links ++ number ∷ [])
Climbs plan rooted bridge links above more false = (number : ℕ) → HasUp rooted bridge number → ⊥

-- the result is the path, or `None` if there is no path
abbrev pub IsWayBetween : Plan → Shape → ℕ → ℕ → ℕ → Option (List ℕ) → Type 0
IsWayBetween plan shape vid a b None = AreJoined plan shape vid a b → ⊥
IsWayBetween plan shape vid a b (Some numbers) = IsPath plan shape vid a numbers b

-- the same for each shape that the certificate shows to be a forest
abbrev pub AnswersPath : Plan → Rooted → ℕ → ℕ → Option (List ℕ) → Type 0
AnswersPath plan rooted a b answer = (shape : Shape) (vid : ℕ) → Shows plan shape vid rooted → IsWayBetween plan shape vid a b answer

-- the certificate shows that some shape is a forest for some service
abbrev pub ShowsSome : Plan → Rooted → Type 0
ShowsSome plan rooted = (shape : Shape) × (vid : ℕ) × Shows plan shape vid rooted
