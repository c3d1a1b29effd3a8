-- Refusals one after another: the first that is given, and what 0 says of all of them. Assumes nothing.
use Rattle.std.specs.Prelude.{◌≡◌, refl, ◌≢◌, Bool, true, false, ℕ, zero, suc}
use Rattle.std.proofs.Common.{arith}
use Rattle.card.specs.Paper.{unless}

pub unless_zero : (test : Bool) (k next : ℕ) → unless test (suc k) next ≡ 0 → (test ≡ true) × (next ≡ 0)
unless_zero true k next e = (refl, e)
unless_zero false k next e = absurd (omega arith)

pub zero_unless : {test : Bool} {next : ℕ} (k : ℕ) → test ≡ true → next ≡ 0 → unless test k next ≡ 0
zero_unless k t e = rw (t, e)

-- of two: b where a is none
unfoldable pub first_of : (a b : ℕ) → ℕ
first_of a b = elim a [ zero ↦ b | suc r ↦ suc r ]

pub first_some : (a b : ℕ) → a ≢ 0 → a ≡ first_of a b
unfolding first_of
first_some zero b d = absurd (d refl)
first_some (suc r) b d = refl

pub first_rest : (a b : ℕ) → a ≡ 0 → b ≡ first_of a b
unfolding first_of
first_rest a b e = rw e

pub first_zero : (a b : ℕ) → first_of a b ≡ 0 → (a ≡ 0) × (b ≡ 0)
unfolding first_of
first_zero zero b e = (refl, e)
first_zero (suc r) b e = absurd (omega arith)
