-- `matching::heaviest` meets its contract. Assumes nothing.
use Rattle.std.proofs.Common.{arith}
use Rattle.matching.specs.Answers.{weight_fits_lem}
use Rattle.matching.proofs.heaviest.Goals as goal

pub overflow_cast-result : goal.overflow_cast-result
overflow_cast-result c = record { fits = omega (arith, weight_fits_lem _ _ _ c.requires, c.first-found.ensures.weighs) }
