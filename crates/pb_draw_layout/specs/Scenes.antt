-- The parts of a scene: each part of the network once, in order.
use Rattle.std.specs.Prelude.{◌≡◌, ℕ, map}
use Rattle.std.specs.declared.option.Option.{Option}
use Rattle.pb_lan.specs.Numbering.{numbers_from}
use Rattle.pb_lan.specs.declared.plan.Plan.{Plan}
use Rattle.pb_lan.specs.declared.shape.Shape.{Shape}
use Rattle.pb_draw_layout.specs.Facts.{bridge_facts, link_facts, port_facts, service_facts}
use Rattle.pb_draw_layout.specs.Keys.{keys_of}
use Rattle.pb_draw_layout.specs.Paths.{AreFound}
use Rattle.pb_draw_layout.specs.declared.facts.Failures.{Failures}
use Rattle.pb_draw_layout.specs.declared.findings.Findings.{Findings}
use Rattle.pb_draw_layout.specs.declared.scene.Scene.{Scene}

-- the scene has each bridge, link, customer port and service of the plan, in the plan's order, as it is in the shape and
-- with these failures, and the signs that it uses
pub record IsSceneOf (plan : Plan) (shape : Shape) (chosen : Option ℕ) (failed : Failures) (scene : Scene) : Type 0 where
  pub found : Findings
  pub is_found : AreFound plan shape chosen found
  pub bridges : map (λ m. m.facts) scene.bridges ≡ map (bridge_facts plan failed found) (numbers_from 1 plan.bridges)
  pub links : map (λ m. m.facts) scene.links ≡ map (link_facts plan shape failed found) (numbers_from 1 plan.links)
  pub ports : map (λ m. m.facts) scene.ports ≡ map (port_facts plan found) (numbers_from 1 plan.customers)
  pub keys : map (λ m. m.key) scene.keys ≡ keys_of scene.bridges scene.links scene.ports
  pub services : map (λ m. m.facts) scene.services ≡ map (service_facts chosen) (numbers_from 1 plan.services)
  pub chosen_is : scene.chosen ≡ chosen
