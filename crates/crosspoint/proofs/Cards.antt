-- Fresh card and slot on lists: what is refused leaves the card's two lists as they were, and what is done is document 01's step. Assumes nothing.
use Rattle.std.specs.Prelude.{◌≡◌, refl, ◌≢◌, true, false, ℕ, zero, suc, length, eqb}
use Rattle.std.proofs.Common.{sym, ◌∙◌}
use Rattle.std.proofs.Math.Path.{ap, ap₂}
use mathlib.Core.List.{List}
use Rattle.card.specs.declared.Card.{Card}
use Rattle.card.specs.declared.Arrivals.{Arrivals}
use Rattle.slot.specs.Paper as steps
use Rattle.slot.specs.Paper.{State, Made, Stepped, fresh_refusal, made, fresh, slot_refusal, stepped, slot}
use Rattle.crosspoint.specs.Paper.{outcome, record_long, lent_of, fresh_lists, record_list, record_in, record_holds, report_list, arrivals_in, slot_long, slot_lists}
use Rattle.crosspoint.specs.Outcomes.{after, lent, slotted}
use Rattle.crosspoint.proofs.Outcomes.{refused, accepted, passed}

-- ---- a refused call leaves the lists

made_kept : (k : ℕ) (c : Card) (cells stamps : List ℕ) → (made k c cells stamps).refusal ≢ 0 → ((made k c cells stamps).state.cells ≡ cells) × ((made k c cells stamps).state.stamps ≡ stamps)
unfolding made
made_kept zero c cells stamps d = absurd (d refl)
made_kept (suc k) c cells stamps d = (refl, refl)

pub fresh_kept : (c : Card) (cells stamps : List ℕ) → (fresh c cells stamps).refusal ≢ 0 → ((fresh c cells stamps).state.cells ≡ cells) × ((fresh c cells stamps).state.stamps ≡ stamps)
unfolding fresh
fresh_kept c cells stamps = made_kept (fresh_refusal c (length cells) (length stamps)) c cells stamps

stepped_kept : (k : ℕ) (s : State) (hold : ℕ) (a : Arrivals) → (stepped k s hold a).refusal ≢ 0 → (stepped k s hold a).state ≡ s
unfolding stepped steps.accepted
stepped_kept zero s hold a d = absurd (d refl)
stepped_kept (suc k) s hold a d = refl

pub slot_kept : (s : State) (hold : ℕ) (a : Arrivals) → (slot s hold a).refusal ≢ 0 → (slot s hold a).state ≡ s
unfolding slot
slot_kept s hold a = stepped_kept (slot_refusal s.kept (length s.cells) (length s.stamps) hold a) s hold a

-- ---- the fresh card

module _ (c : Card) (kept cells stamps : List ℕ) (f : Made) (e : f ≡ fresh c cells stamps) (l : eqb (length kept) record_long ≡ true) where
  pub fresh_refused : (k : ℕ) → k ≡ f.refusal → k ≢ 0 → after k (lent kept f.state.cells f.state.stamps) ≡ fresh_lists c (lent kept cells stamps)
  unfolding fresh_lists
  fresh_refused k q d =
      let z = fresh_kept c cells stamps (λ n. d (q ∙ ap (λ (m : Made). m.refusal) e ∙ n)) in
      ap₂ (λ (x y : List ℕ). after k (lent kept x y)) (ap (λ (m : Made). m.state.cells) e ∙ z.0) (ap (λ (m : Made). m.state.stamps) e ∙ z.1)
      ∙ refused k _ _ _ (q ∙ ap (λ (m : Made). m.refusal) e) d
      ∙ passed _ 2 _ _ _ l

  pub fresh_done : (now : List ℕ) → f.refusal ≡ 0 → now ≡ record_list f.state.kept → after 0 (lent now f.state.cells f.state.stamps) ≡ fresh_lists c (lent kept cells stamps)
  unfolding fresh_lists
  fresh_done now z q =
      accepted _ _ _ _ (sym (ap (λ (m : Made). m.refusal) e) ∙ z) (ap (λ (x : List ℕ). lent x f.state.cells f.state.stamps) q ∙ ap (λ (m : Made). lent_of m.state) e)
      ∙ passed _ 2 _ _ _ l

-- ---- the slot

module _ (hold : ℕ) (outputs arriving kept cells stamps report : List ℕ) (s : Stepped)
    (e : s ≡ slot (record { kept = record_in kept; cells = cells; stamps = stamps }) hold (arrivals_in outputs arriving))
    (l : slot_long (length kept) (length outputs) (length arriving) (length report) ≡ true) (h : record_holds kept ≡ true) where
  through : outcome s.refusal (slotted (record_list s.state.kept) s.state.cells s.state.stamps (report_list s.report)) (slotted kept cells stamps report)
      ≡ slot_lists hold outputs arriving (slotted kept cells stamps report)
  unfolding slot_lists
  through =
      ap (λ (x : Stepped). outcome x.refusal (slotted (record_list x.state.kept) x.state.cells x.state.stamps (report_list x.report)) (slotted kept cells stamps report)) e
      ∙ passed _ 7 _ _ _ h
      ∙ passed _ 2 _ _ _ l

  -- where it is refused the two lists are as they were
  pub slot_refused : (k : ℕ) → k ≡ s.refusal → k ≢ 0 → after k (slotted kept s.state.cells s.state.stamps report) ≡ slot_lists hold outputs arriving (slotted kept cells stamps report)
  slot_refused k q d =
      let z = ap (λ (x : Stepped). x.state) e ∙ slot_kept _ hold (arrivals_in outputs arriving) (λ n. d (q ∙ ap (λ (x : Stepped). x.refusal) e ∙ n)) in
      ap (λ (x : State). after k (slotted kept x.cells x.stamps report)) z ∙ refused k _ _ _ q d ∙ through

  pub slot_done : (now said : List ℕ) → s.refusal ≡ 0 → now ≡ record_list s.state.kept → said ≡ report_list s.report
      → after 0 (slotted now s.state.cells s.state.stamps said) ≡ slot_lists hold outputs arriving (slotted kept cells stamps report)
  slot_done now said z f g =
      accepted _ _ _ _ z (ap₂ (λ (x y : List ℕ). slotted x s.state.cells s.state.stamps y) f g) ∙ through

-- where the record's list has a number that no field can hold
pub slot_unheld : (hold : ℕ) (outputs arriving kept cells stamps report : List ℕ) → slot_long (length kept) (length outputs) (length arriving) (length report) ≡ true → record_holds kept ≡ false
    → after 7 (slotted kept cells stamps report) ≡ slot_lists hold outputs arriving (slotted kept cells stamps report)
unfolding slot_lists outcome
slot_unheld hold outputs arriving kept cells stamps report l h = rw (l, h)
