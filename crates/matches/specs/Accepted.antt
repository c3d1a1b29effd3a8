-- What an accepted table and hold satisfy. Assumes nothing.
use Rattle.std.specs.Prelude.{◌≡◌, true, List, ℕ, ◌*◌, length}
use Rattle.card.specs.Paper.{names_below}
use Rattle.card.specs.Limits.{Ports}

pub record TableOk (M N : ℕ) (counts : List ℕ) (hold : ℕ) : Type 0 where
  pub sizes : Ports M N
  pub full : length counts ≡ M * N
  pub held : names_below N hold ≡ true
