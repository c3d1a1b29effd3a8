-- What `next` of the ports of a set promises. Assumes nothing.
use Rattle.std.specs.Prelude.{◌≡◌, ℕ, ◌<◌, Option, MatchOption}
use Rattle.masks.specs.Paper.{Without, Lowest}

-- j is the lowest port of m, and n is m without it
pub record Taken (m j n : ℕ) : Type 0 where
  pub some : 0 < m
  pub inside : j < 32
  pub lowest : Lowest m j
  pub others : Without m j n

-- a set m gives its lowest port and leaves the others; the empty set gives none, and stays empty
abbrev pub NextPort : ℕ → Option ℕ → ℕ → Type 0
NextPort m r n = MatchOption r ((m ≡ 0) × (n ≡ 0)) (λ j. Taken m j n)
