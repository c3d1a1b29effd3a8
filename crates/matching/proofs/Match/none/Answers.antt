-- `matching::Match::none` meets its contract. Assumes nothing.
use Rattle.std.specs.Prelude.{ℕ, List}
use Rattle.std.proofs.Common.{ap}
use Rattle.card.specs.Paper.{none}
use Rattle.matching.specs.Answers.{no_numbers}
use Rattle.matching.proofs.Match.none.Goals as goal

pub returns : goal.returns
returns c = ap (λ (p : List ℕ). record { refusal = 0; partners = p; pairs = 0; weighs = 0 }) (no_numbers 32 none)
