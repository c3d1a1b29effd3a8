-- `matching::refusals::weights_fit` meets its contract. Assumes nothing.
use Rattle.std.proofs.Common.{sym, ◌∙◌}
use Rattle.matching.specs.Asking.{weights_both}
use Rattle.matching.proofs.refusals.weights_fit.Goals as goal

pub returns-then-ins : goal.returns-then-ins
returns-then-ins c = weights_both _ _ _ _ _ c.asking.ensures.is c.asking_outs.ensures _ _ (sym c.if-ins.true ∙ c.side_fits-ins.ensures) c.side_fits-outs.ensures

pub returns-else-ins : goal.returns-else-ins
returns-else-ins c = c.if-ins.false ∙ weights_both _ _ _ _ _ c.asking.ensures.is c.asking_outs.ensures _ _ (sym c.if-ins.false ∙ c.side_fits-ins.ensures) c.side_fits-outs.ensures
