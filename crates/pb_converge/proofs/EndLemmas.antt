-- The outcome of driving bridges to convergence.
use Rattle.std.proofs.Common.{◌≡◌, ℕ, sym, subst, ◌∙◌}
use Rattle.pb_lan.specs.declared.plan.Spanning.{Spanning}
use Rattle.pb_net.specs.Answers.{NetView}
use Rattle.pb_converge.specs.Drives.{EndsAs}
use Rattle.pb_converge.specs.Convergences.{IsConvergenceIn}
use Rattle.pb_converge.specs.declared.convergence.Convergence.{Convergence}
use Rattle.pb_converge.specs.declared.convergence.Convergence.TheVariants.{Given, Converged, NotConverged}

-- the outcome is `Given` exactly if the plan of the network gives the states
pub rest_in : (most events : ℕ) (rest : Convergence) (spanning : Spanning) (old new : NetView) → old.plan.spanning ≡ spanning
    → EndsAs most events rest old new → IsConvergenceIn spanning rest
rest_in most events Given spanning old new e h = subst (λ s. IsConvergenceIn s Given) (sym h.0 ∙ e) tt
rest_in most events (Converged ticks) spanning old new e h = subst (λ s. IsConvergenceIn s (Converged ticks)) (sym h.0 ∙ e) tt
rest_in most events (NotConverged ticks) spanning old new e h = subst (λ s. IsConvergenceIn s (NotConverged ticks)) (sym h.0 ∙ e) tt
