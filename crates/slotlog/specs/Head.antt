-- The head matter of a log, refusals 8, 1 and 9: what holds exactly where none of them is given, and that each record then lies in front of the
-- trailer. Assumes nothing.
use Rattle.std.specs.Prelude.{◌≡◌, refl, Bool, true, false, ◌&&◌, List, [], ◌∷◌, ℕ, ◌-◌, drop, ◌+◌, ◌*◌, ◌≤◌, ◌<◌, length, leb, eqb}
use Rattle.std.proofs.Common.{arith, leb-true, eqb-true, le-leb, eq-eqb, sym, ◌∙◌, ap, ap₂, suc, drop-cons}
use lib.Pointwise.{pointwise}
use Rattle.std.proofs.lemmas.List.{drop_all}
use Rattle.std.specs.List.{ends_with}
use Rattle.masks.specs.Tests.{and_true, and_both, same_test}
use Rattle.card.specs.Paper.{ports, card_fits}
use Rattle.card.specs.Limits.{Sizes, sizes_are, are_sizes}
use Rattle.matches.specs.Paper.{at}
use Rattle.slotlog.specs.Paper.{longest, trailer_length, record_length, trailer_at, back_of, m_of, n_of, d_of, count_of, first_at, ends_well, back_fits, head_refusal}
use Rattle.slotlog.specs.Refused.{unless_zero, zero_unless}
use Rattle.slotlog.specs.Joined.{part_inside}

-- ---- refusal 8

-- room for a trailer, and no more bytes than a log has
pub record Sized (log : List ℕ) : Type 0 where
  pub long : trailer_length ≤ length log
  pub short : length log ≤ longest

pub sized : (log : List ℕ) → (leb trailer_length (length log) && leb (length log) longest) ≡ true → Sized log
sized log e = let h = and_both _ _ e in record { long = leb-true 16 (length log) h.0; short = leb-true (length log) 32016 h.1 }

pub ends_sized : (log : List ℕ) → ends_well log ≡ true → Sized log
unfolding ends_well
ends_sized log e = sized log (and_both _ _ e).0

pub ends_long : (log : List ℕ) → ends_well log ≡ true → trailer_length ≤ length log
ends_long log e = (ends_sized log e).long

pub ends_short : (log : List ℕ) → ends_well log ≡ true → length log ≤ longest
ends_short log e = (ends_sized log e).short

-- the last two bytes, as std looks for them
same_either : (x y : ℕ) → eqb x y ≡ eqb y x
same_either x y = same_test (λ e. eq-eqb y x (sym (eqb-true x y e))) (λ e. eq-eqb x y (sym (eqb-true y x e)))

ends_mark : (log : List ℕ) → trailer_length ≤ length log
    → ends_with eqb log (76 ∷ 80 ∷ []) ≡ (eqb (at log (trailer_at log + 14)) 76 && eqb (at log (trailer_at log + 15)) 80)
ends_mark log h =
    let p : length log - 2 ≡ trailer_at log + 14 = omega (arith, h) in
    let q : suc (trailer_at log + 14) ≡ trailer_at log + 15 = omega arith in
    let last : drop (length log - 2) log ≡ at log (trailer_at log + 14) ∷ at log (trailer_at log + 15) ∷ [] =
    ap (λ (k : ℕ). drop k log) p
    ∙ drop-cons log (trailer_at log + 14) 0 (omega (arith, h))
    ∙ ap (λ (k : ℕ). at log (trailer_at log + 14) ∷ drop k log) q
    ∙ ap (λ (l : List ℕ). at log (trailer_at log + 14) ∷ l) (drop-cons log (trailer_at log + 15) 0 (omega (arith, h)) ∙ ap (λ (l : List ℕ). at log (trailer_at log + 15) ∷ l) (drop_all (suc (trailer_at log + 15)) log (omega (arith, h)))) in
    ap (pointwise eqb (76 ∷ 80 ∷ [])) last
    ∙ ap₂ ◌&&◌ (same_either 76 (at log (trailer_at log + 14))) (and_one (eqb 80 (at log (trailer_at log + 15))) ∙ same_either 80 (at log (trailer_at log + 15)))
  where
    and_one : (b : Bool) → (b && true) ≡ b
    and_one true = refl
    and_one false = refl

pub ends_within : (log : List ℕ) → (leb trailer_length (length log) && leb (length log) longest) ≡ true → ends_with eqb log (76 ∷ 80 ∷ []) ≡ ends_well log
unfolding ends_well
ends_within log e = ends_mark log (sized log e).long ∙ rw e

pub ends_without : (log : List ℕ) → (leb trailer_length (length log) && leb (length log) longest) ≡ false → false ≡ ends_well log
unfolding ends_well
ends_without log e = rw e

-- ---- refusal 1

pub fits_few : (m n d : ℕ) → card_fits m n d ≡ true → m ≤ ports
fits_few m n d e = (sizes_are m n d e).ports.ins.high

-- ---- refusal 9

-- of a trailer at `place` that says so
abbrev pub back_holds : (place back M count : ℕ) → Bool
back_holds place back M count = eqb back (count * record_length M) && leb back place

-- ---- none is given

pub record Head (log : List ℕ) : Type 0 where
  pub sized : Sized log
  pub mark : at log (trailer_at log + 14) ≡ 76
  pub end : at log (trailer_at log + 15) ≡ 80
  pub sizes : Sizes (m_of log) (n_of log) (d_of log)
  pub back : back_of log ≡ count_of log * record_length (m_of log)
  pub room : back_of log ≤ trailer_at log

pub head_is : (log : List ℕ) → head_refusal log ≡ 0 → Head log
unfolding head_refusal ends_well back_fits
head_is log e =
    let e8 = unless_zero (ends_well log) 7 _ e in
    let e1 = unless_zero (card_fits (m_of log) (n_of log) (d_of log)) 0 _ e8.1 in
    let e9 = unless_zero (back_fits log) 8 0 e1.1 in
    let ends = and_both _ _ e8.0 in
    let marks = and_both _ _ ends.1 in
    let fits = and_both _ _ e9.0 in
    record {
      sized = sized log ends.0;
      mark = eqb-true _ _ marks.0;
      end = eqb-true _ _ marks.1;
      sizes = sizes_are (m_of log) (n_of log) (d_of log) e1.0;
      back = eqb-true _ _ fits.0;
      room = leb-true _ _ fits.1;
    }

pub is_head : (log : List ℕ) → Head log → head_refusal log ≡ 0
unfolding head_refusal ends_well back_fits
is_head log h =
    zero_unless 8 (and_true (and_true (le-leb _ _ h.sized.long) (le-leb _ _ h.sized.short)) (and_true (eq-eqb _ _ h.mark) (eq-eqb _ _ h.end)))
    (zero_unless 1 (are_sizes (m_of log) (n_of log) (d_of log) h.sizes)
    (zero_unless 9 (and_true (eq-eqb _ _ h.back) (le-leb _ _ h.room)) refl))

pub record_inside : (log : List ℕ) (k : ℕ) → Head log → k < count_of log → (first_at log + k * record_length (m_of log)) + record_length (m_of log) ≤ trailer_at log
record_inside log k h l = omega (arith, h.back, h.room, part_inside k (count_of log) (record_length (m_of log)) l)

-- ---- what is read of a log whose head matter is in order

pub record Known (log : List ℕ) (M N D count first : ℕ) : Type 0 where
  pub head : head_refusal log ≡ 0
  pub m : M ≡ m_of log
  pub n : N ≡ n_of log
  pub d : D ≡ d_of log
  pub slots : count ≡ count_of log
  pub start : first ≡ first_at log
