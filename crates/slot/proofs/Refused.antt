-- Each way out of the fresh card and of the slot as a law about the definitions, and what an accepted slot was handed. Assumes nothing.
use Rattle.std.specs.Prelude.{◌≡◌, ℕ, zero, suc, Bool, true, false, List, length, replicate, ◌==◌, ◌≢◌, refl}
use Rattle.std.proofs.Common.{arith, eqb-true}
use Rattle.card.specs.declared.Card.{Card}
use Rattle.card.specs.declared.Arrivals.{Arrivals}
use Rattle.card.specs.Paper.{unless, names_below, arrivals_fit}
use Rattle.slot.specs.declared.Record.{Record}
use Rattle.slot.specs.Paper.{State, Made, Stepped, blank, room, fresh_refusal, made, fresh, silent, well_formed, slot_refusal, accepted, stepped, slot}
use Rattle.slot.specs.Paper as paper

-- ---- the fresh card

made_refused : (k : ℕ) (c : Card) (cells stamps : List ℕ) → (k ≢ 0)
    → record { refusal = k; state = record { kept = blank (record { m = 0; n = 0; d = 0 }); cells = cells; stamps = stamps } } ≡ made k c cells stamps
unfolding made
made_refused zero c cells stamps d = absurd (d refl)
made_refused (suc k) c cells stamps d = refl

module _ (c : Card) (cells stamps : List ℕ) where
  pub fresh_refused : (k : ℕ) (r : Record) → k ≡ fresh_refusal c (length cells) (length stamps) → (k ≢ 0) → r ≡ blank (record { m = 0; n = 0; d = 0 })
      → ◌≡◌ {A = Made} (record { refusal = k; state = record { kept = r; cells = cells; stamps = stamps } }) (fresh c cells stamps)
  unfolding fresh
  fresh_refused k r e d q = rw (q, ← e) (made_refused k c cells stamps d)

  pub fresh_made : (r : Record) (cells' stamps' : List ℕ) → fresh_refusal c (length cells) (length stamps) ≡ 0 → r ≡ blank c
      → cells' ≡ replicate (length cells) 0 → stamps' ≡ replicate (length stamps) 0
      → ◌≡◌ {A = Made} (record { refusal = 0; state = record { kept = r; cells = cells'; stamps = stamps' } }) (fresh c cells stamps)
  unfolding fresh made
  fresh_made r cells' stamps' e q x y = rw (q, x, y, e)

-- ---- the slot

step_refused : (k : ℕ) (s : State) (hold : ℕ) (a : Arrivals) → (k ≢ 0) → record { refusal = k; state = s; report = silent } ≡ stepped k s hold a
unfolding stepped
step_refused zero s hold a d = absurd (d refl)
step_refused (suc k) s hold a d = refl

-- the refusal that a slot gives
abbrev pub refusal_of : State → ℕ → Arrivals → ℕ
refusal_of s hold a = slot_refusal s.kept (length s.cells) (length s.stamps) hold a

module _ (s : State) (hold : ℕ) (a : Arrivals) where
  pub slot_refused : (k : ℕ) (r : paper.Report) → k ≡ refusal_of s hold a → (k ≢ 0) → r ≡ silent → ◌≡◌ {A = Stepped} (record { refusal = k; state = s; report = r }) (slot s hold a)
  unfolding slot
  slot_refused k r e d q = rw (q, ← e) (step_refused k s hold a d)

  pub slot_accepted : refusal_of s hold a ≡ 0 → accepted s hold a ≡ slot s hold a
  unfolding slot stepped
  slot_accepted e = rw e

-- what 0 says
pub record Taken (r : Record) (cells stamps hold : ℕ) (a : Arrivals) : Type 0 where
  pub formed : well_formed r ≡ true
  pub cells_long : cells ≡ room r.card
  pub stamps_long : stamps ≡ room r.card
  pub hold_fits : names_below r.card.n hold ≡ true
  pub fit_arrivals : arrivals_fit r.card.m r.card.n a ≡ true

pub taken : (r : Record) (cells stamps hold : ℕ) (a : Arrivals) → slot_refusal r cells stamps hold a ≡ 0 → Taken r cells stamps hold a
unfolding slot_refusal
taken r cells stamps hold a e =
    go (well_formed r) refl (cells == room r.card) refl (stamps == room r.card) refl (names_below r.card.n hold) refl (arrivals_fit r.card.m r.card.n a) refl e
  where
    go : (p : Bool) → well_formed r ≡ p → (q : Bool) → (cells == room r.card) ≡ q → (u : Bool) → (stamps == room r.card) ≡ u
        → (v : Bool) → names_below r.card.n hold ≡ v → (w : Bool) → arrivals_fit r.card.m r.card.n a ≡ w
        → unless p 7 (unless q 2 (unless u 2 (unless v 3 (unless w 4 0)))) ≡ 0 → Taken r cells stamps hold a
    go true x true y true z true n true f e = record { formed = x; cells_long = eqb-true _ _ y; stamps_long = eqb-true _ _ z; hold_fits = n; fit_arrivals = f }
    go true x true y true z true n false f e = absurd (omega arith)
    go true x true y true z false n w f e = absurd (omega arith)
    go true x true y false z v n w f e = absurd (omega arith)
    go true x false y u z v n w f e = absurd (omega arith)
    go false x q y u z v n w f e = absurd (omega arith)
