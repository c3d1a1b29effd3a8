-- A fresh card is one that a slot can work on, and every queue of it is empty. Assumes nothing.
use Rattle.std.specs.Prelude.{◌≡◌, ℕ, ◌*◌, ◌<◌, Bool, true, false, List, length, replicate, ◌==◌}
use Rattle.std.proofs.Math.Path.{refl}
use Rattle.std.proofs.Common.{◌∙◌, arith, eqb-true}
use Rattle.std.proofs.Math.ListN.{length-replicate, get_or-replicate}
use Rattle.card.specs.declared.Card.{Card}
use Rattle.card.specs.Limits.{Sizes, sizes_are}
use Rattle.card.specs.Paper.{unless, card_fits}
use Rattle.matches.specs.Paper.{at}
use Rattle.slot.specs.Paper.{State, room, queues, blank, fresh_refusal, made, fresh}
use Rattle.slot.specs.Ready.{Ready, Queue}

-- what 0 says
pub record Fits (c : Card) (cells stamps : ℕ) : Type 0 where
  pub sizes : Sizes c.m c.n c.d
  pub cells_long : cells ≡ room c
  pub stamps_long : stamps ≡ room c

pub fits : (c : Card) (cells stamps : ℕ) → fresh_refusal c cells stamps ≡ 0 → Fits c cells stamps
unfolding fresh_refusal
fits c cells stamps e = go (card_fits c.m c.n c.d) refl (cells == room c) refl (stamps == room c) refl e
  where
    go : (p : Bool) → card_fits c.m c.n c.d ≡ p → (q : Bool) → (cells == room c) ≡ q → (u : Bool) → (stamps == room c) ≡ u
        → unless p 1 (unless q 2 (unless u 2 0)) ≡ 0 → Fits c cells stamps
    go true x true y true z e = record { sizes = sizes_are _ _ _ x; cells_long = eqb-true _ _ y; stamps_long = eqb-true _ _ z }
    go true x true y false z e = absurd (omega arith)
    go true x false y u z e = absurd (omega arith)
    go false x q y u z e = absurd (omega arith)

-- the card as it is made
abbrev pub cleared : Card → (cells stamps : List ℕ) → State
cleared c cells stamps = record { kept = blank c; cells = replicate (length cells) 0; stamps = replicate (length stamps) 0 }

module _ (c : Card) (cells stamps : List ℕ) where
  pub fresh_is : fresh_refusal c (length cells) (length stamps) ≡ 0 → fresh c cells stamps ≡ record { refusal = 0; state = cleared c cells stamps }
  unfolding fresh made
  fresh_is e = rw e

  pub cleared_card : (cleared c cells stamps).kept.card ≡ c
  unfolding blank
  cleared_card = refl

  pub cleared_slot : (cleared c cells stamps).kept.slot ≡ 0
  unfolding blank
  cleared_slot = refl

  pub cleared_count : (k : ℕ) → k < queues → at (cleared c cells stamps).kept.counts k ≡ 0
  unfolding blank
  cleared_count k l = get_or-replicate queues k 0 0 l

  pub cleared_ready : Fits c (length cells) (length stamps) → Ready (cleared c cells stamps)
  unfolding blank
  cleared_ready h =
      record {
        sizes = h.sizes;
        heads_long = length-replicate {A = ℕ} queues 0;
        counts_long = length-replicate {A = ℕ} queues 0;
        cells_long = length-replicate {A = ℕ} (length cells) 0 ∙ h.cells_long;
        stamps_long = length-replicate {A = ℕ} (length stamps) 0 ∙ h.stamps_long;
        queue = λ k l. empty k (get_or-replicate queues k 0 0 l);
      }
    where
      empty : (k : ℕ) → at (replicate queues 0) k ≡ 0 → Queue (c.m * c.n) c.d k (at (replicate queues 0) k) (at (replicate queues 0) k)
      empty k e =
          let d = h.sizes.deep.low in
          record { head_in = λ _. omega arith; count_in = λ _. omega arith; head_rest = λ _. e; count_rest = λ _. e }
