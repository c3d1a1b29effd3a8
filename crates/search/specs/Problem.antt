-- The requests seen from both sides, and what is left of them for some of the ports. Assumes nothing.
use Rattle.std.specs.Prelude.{◌≡◌, List, ℕ, ◌<◌, min}
use Rattle.masks.specs.Paper.{bit, has}
use Rattle.matches.specs.Paper.{at, in_asks}
use Rattle.search.specs.declared.problem.Problem.{Problem}

-- cols has the columns of rows
pub record Columns (rows cols : List ℕ) : Type 0 where
  pub turned : (i j : ℕ) → i < 32 → j < 32 → bit (at cols j) i ≡ bit (at rows i) j

-- set has the ports that have a request; a row outside it is empty
pub record Asking (rows : List ℕ) (set : ℕ) : Type 0 where
  pub is : (k : ℕ) → k < 32 → has set k ≡ in_asks rows k
  pub outside : (k : ℕ) → k < 32 → bit set k ≡ 0 → at rows k ≡ 0

-- rest has the requests of rows but those of input i and those for output j
pub record Struck (rows : List ℕ) (i j : ℕ) (rest : List ℕ) : Type 0 where
  pub row : (b : ℕ) → b < 32 → i < 32 → bit (at rest i) b ≡ 0
  pub column : (k : ℕ) → k < 32 → j < 32 → bit (at rest k) j ≡ 0
  pub other : (k b : ℕ) → k < 32 → b < 32 → (k ≡ i → ⊥) → (b ≡ j → ⊥) → bit (at rest k) b ≡ bit (at rows k) b

-- p is the problem of these rows
pub record ProblemOf (given : List ℕ) (p : Problem) : Type 0 where
  pub rows : p.rows ≡ given

-- rest is p without input i and output j
pub record WithoutPair (p : Problem) (i j : ℕ) (rest : Problem) : Type 0 where
  pub rows : Struck p.rows i j rest.rows

-- r has the requests of all between the inputs and outputs that are left
pub record LeftOf (all : Problem) (ins outs : ℕ) (r : Problem) : Type 0 where
  pub rows : (k b : ℕ) → k < 32 → b < 32 → bit (at r.rows k) b ≡ min (bit ins k) (min (bit (at all.rows k) b) (bit outs b))
