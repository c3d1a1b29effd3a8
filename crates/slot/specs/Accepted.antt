-- What the steps of an accepted slot are handed. Assumes nothing.
use Rattle.std.specs.Prelude.{◌≡◌, ℕ, true}
use Rattle.card.specs.declared.Arrivals.{Arrivals}
use Rattle.card.specs.Paper.{names_below, arrivals_fit}
use Rattle.slot.specs.Paper.{State}
use Rattle.slot.specs.Ready.{Ready}

-- a card, a hold and arrivals that are not refused
pub record Fit (s : State) (hold : ℕ) (a : Arrivals) : Type 0 where
  pub ready : Ready s
  pub hold_fits : names_below s.kept.card.n hold ≡ true
  pub fit_arrivals : arrivals_fit s.kept.card.m s.kept.card.n a ≡ true
