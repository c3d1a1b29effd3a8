-- What an accepted size says, and that it is accepted exactly then; and that no two refusals have one number. Assumes nothing.
use Rattle.std.specs.Prelude.{◌≡◌, ℕ, ◌≤◌, true, List, [], ◌∷◌, get_or, slice_index_or, refl, Result, Ok, Err}
use Rattle.std.proofs.Common.{sym, ap, ◌∙◌, arith, leb-true, le-leb}
use Rattle.masks.specs.Tests.{and_true, and_both}
use Rattle.card.specs.declared.Refusal.{Refusal}
use Rattle.card.specs.declared.Refusal.TheVariants.{Size, Length, Hold, Arrival, Row, Weight, Record, Log, Back, Buffer, Slot}
use Rattle.card.specs.Paper.{ports, depth, within, ports_fit, card_fits, refusal_number, number_of}

pub record Within (most x : ℕ) : Type 0 where
  pub low : 1 ≤ x
  pub high : x ≤ most

pub within_is : (most x : ℕ) → within most x ≡ true → Within most x
within_is most x e = let h = and_both _ _ e in record { low = leb-true 1 x h.0; high = leb-true x most h.1 }

pub is_within : (most x : ℕ) → Within most x → within most x ≡ true
is_within most x h = and_true (le-leb 1 x h.low) (le-leb x most h.high)

pub record Ports (m n : ℕ) : Type 0 where
  pub ins : Within ports m
  pub outs : Within ports n

pub ports_are : (m n : ℕ) → ports_fit m n ≡ true → Ports m n
unfolding ports_fit
ports_are m n e = let h = and_both _ _ e in record { ins = within_is ports m h.0; outs = within_is ports n h.1 }

pub are_ports : (m n : ℕ) → Ports m n → ports_fit m n ≡ true
unfolding ports_fit
are_ports m n h = and_true (is_within ports m h.ins) (is_within ports n h.outs)

pub record Sizes (m n d : ℕ) : Type 0 where
  pub ports : Ports m n
  pub deep : Within depth d

pub sizes_are : (m n d : ℕ) → card_fits m n d ≡ true → Sizes m n d
unfolding card_fits
sizes_are m n d e = let h = and_both _ _ e in record { ports = ports_are m n h.0; deep = within_is depth d h.1 }

pub are_sizes : (m n d : ℕ) → Sizes m n d → card_fits m n d ≡ true
unfolding card_fits
are_sizes m n d h = and_true (are_ports m n h.ports) (is_within depth d h.deep)

-- the refusals by number; the first entry stands for none
refusals : List Refusal
refusals = Size ∷ Size ∷ Length ∷ Hold ∷ Arrival ∷ Row ∷ Weight ∷ Record ∷ Log ∷ Back ∷ Buffer ∷ Slot ∷ []

listed : (r : Refusal) → slice_index_or refusals (refusal_number r) Size ≡ r
unfolding refusals
listed Size = refl
listed Length = refl
listed Hold = refl
listed Arrival = refl
listed Row = refl
listed Weight = refl
listed Record = refl
listed Log = refl
listed Back = refl
listed Buffer = refl
listed Slot = refl

-- no two refusals have one number
pub refusal_unique : (r s : Refusal) → refusal_number r ≡ refusal_number s → r ≡ s
refusal_unique r s e = sym (listed r) ∙ ap (λ (n : ℕ). get_or refusals n Size) e ∙ listed s

-- none of them is 0
pub refused : (r : Refusal) → refusal_number r ≡ 0 → ⊥
refused Size e = absurd (omega (arith, e))
refused Length e = absurd (omega (arith, e))
refused Hold e = absurd (omega (arith, e))
refused Arrival e = absurd (omega (arith, e))
refused Row e = absurd (omega (arith, e))
refused Weight e = absurd (omega (arith, e))
refused Record e = absurd (omega (arith, e))
refused Log e = absurd (omega (arith, e))
refused Back e = absurd (omega (arith, e))
refused Buffer e = absurd (omega (arith, e))
refused Slot e = absurd (omega (arith, e))

-- answers with one number are both accepted, or refused alike
pub answers_alike : {T : Type 0} (P : Result T Refusal → Result T Refusal → Type 0) → ((x y : T) → P (Ok x) (Ok y)) → ((r : Refusal) → P (Err r) (Err r))
    → (a b : Result T Refusal) → number_of a ≡ number_of b → P a b
answers_alike P both same (Ok x) (Ok y) e = both x y
answers_alike P both same (Ok x) (Err s) e = absurd (refused s (sym e))
answers_alike P both same (Err r) (Ok y) e = absurd (refused r e)
answers_alike P both same (Err r) (Err s) e = rw (sym (refusal_unique r s e)) (same r)

-- so an answer without a value is known by its number
pub verdict_unique : (v w : Result (Unit {0}) Refusal) → number_of v ≡ number_of w → v ≡ w
verdict_unique v w e = answers_alike (λ (a b : Result (Unit {0}) Refusal). a ≡ b) (λ x y. refl) (λ r. refl) v w e
