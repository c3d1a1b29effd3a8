-- The writer's refusals in three parts: by its sizes, by its records, by its room; and the tests as the code makes them. Assumes nothing.
use Rattle.std.specs.Prelude.{◌≡◌, refl, ◌≢◌, Bool, true, false, ◌&&◌, List, ℕ, zero, suc, ◌+◌, ◌*◌, ◌/◌, ◌≤◌, ◌<◌, length, leb, eqb, Option, None, Some, ◌^◌}
use Rattle.std.proofs.Common.{sym, ◌∙◌, le-div_iff_mul-le, div-lt_iff_lt-mul, arith, leb-true, eqb-true, eq-eqb, le-leb}
use Rattle.std.specs.Option.{SomeIff, option_eq}
use mathlib.Core.Bool.{true≢false}
use Rattle.std.proofs.lemmas.Bool.{lt-leb}
use Rattle.masks.specs.Tests.{same_test, and_true, and_both}
use Rattle.card.specs.Paper.{unless, card_fits}
use Rattle.card.specs.Limits.{sizes_are, are_sizes}
use Rattle.slotlog.specs.Paper.{record_length, trailer_length, longest, slot_refusal, first_fault, given_slot, write_refusal}
use Rattle.slotlog.specs.Refused.{first_of, first_some, first_rest, unless_zero, zero_unless}
use Rattle.slotlog.specs.Given.{Lists}

-- 1, 2, 8: of the card and the lists' lengths
unfoldable pub size_refusal : (M N D slots outputs cells : ℕ) → ℕ
size_refusal M N D slots outputs cells =
    unless (card_fits M N D) 1 (unless (eqb outputs (slots * M) && eqb cells (slots * M)) 2 (unless (leb (slots * record_length M + trailer_length) longest) 8 0))

-- 3 and 4, of slot k
abbrev pub slot_fault : (M N D : ℕ) (holds outputs cells : List ℕ) (k : ℕ) → ℕ
slot_fault M N D holds outputs cells k = slot_refusal M N (given_slot M N D holds outputs cells k)

-- 3 and 4, by record
unfoldable pub records_refusal : (M N D : ℕ) (holds outputs cells : List ℕ) → ℕ
records_refusal M N D holds outputs cells = (first_fault (length holds) 0 (slot_fault M N D holds outputs cells)).refusal

-- 10
unfoldable pub room_refusal : (M slots room : ℕ) → ℕ
room_refusal M slots room = unless (leb (slots * record_length M + trailer_length) room) 10 0

-- all of them, one after another
pub in_parts : (M N D : ℕ) (holds outputs cells : List ℕ) (room : ℕ)
    → first_of (size_refusal M N D (length holds) (length outputs) (length cells)) (first_of (records_refusal M N D holds outputs cells) (room_refusal M (length holds) room)) ≡ write_refusal M N D holds outputs cells room
unfolding first_of size_refusal records_refusal room_refusal write_refusal
in_parts M N D holds outputs cells room =
    go (card_fits M N D) (eqb (length outputs) (length holds * M)) (eqb (length cells) (length holds * M)) (leb (length holds * record_length M + trailer_length) longest)
    (first_fault (length holds) 0 (λ k. slot_refusal M N (given_slot M N D holds outputs cells k))).refusal (unless (leb (length holds * record_length M + trailer_length) room) 10 0)
  where
    go : (a b c d : Bool) (f x : ℕ)
        → first_of (unless a 1 (unless (b && c) 2 (unless d 8 0))) (first_of f x) ≡ unless a 1 (unless b 2 (unless c 2 (unless d 8 (elim f [ zero ↦ x | suc r ↦ suc r ]))))
    go false b c d f x = refl
    go true false c d f x = refl
    go true true false d f x = refl
    go true true true false f x = refl
    go true true true true zero x = refl
    go true true true true (suc r) x = refl

-- what the lists say where none of 1, 2 and 8 applies
pub lists_are : (M N D : ℕ) (holds outputs cells : List ℕ) → size_refusal M N D (length holds) (length outputs) (length cells) ≡ 0 → Lists M N D holds outputs cells
unfolding size_refusal
lists_are M N D holds outputs cells e =
    let e1 = unless_zero _ 0 _ e in
    let e2 = unless_zero _ 1 _ e1.1 in
    let e8 = unless_zero _ 7 _ e2.1 in
    let full = and_both _ _ e2.0 in
    record {
      sizes = sizes_are M N D e1.0;
      outputs_full = eqb-true _ _ full.0;
      cells_full = eqb-true _ _ full.1;
      short = leb-true _ _ e8.0;
    }

-- and the other way about
pub are_lists : (M N D : ℕ) (holds outputs cells : List ℕ) → Lists M N D holds outputs cells → 0 ≡ size_refusal M N D (length holds) (length outputs) (length cells)
unfolding size_refusal
are_lists M N D holds outputs cells s =
    sym (zero_unless 1 (are_sizes M N D s.sizes) (zero_unless 2 (and_true (eq-eqb _ _ s.outputs_full) (eq-eqb _ _ s.cells_full)) (zero_unless 8 (le-leb _ _ s.short) refl)))

-- ---- the tests as the code makes them

-- a product that is too large for a number is no list's length
pub full_is : (full : Option ℕ) (v x : ℕ) → SomeIff full (v < 2 ^ 64) v → x < 2 ^ 64 → option_eq eqb full (Some x) ≡ eqb x v
full_is None v x e l = same_test (λ q. absurd (true≢false (sym q))) (λ q. absurd (e (let z : x ≡ v = eqb-true x v q in omega (arith, z, l))))
full_is (Some y) v x e l = let z = e.1 in same_test (λ q. eq-eqb x v (sym (eqb-true y x q) ∙ z)) (λ q. eq-eqb y x (z ∙ sym (eqb-true x v q)))

-- so many records of r bytes are too many, or not: with the trailer the longest log has 32000 and 16
pub too_long : (most s r : ℕ) → 1 ≤ r → most / r < s → 32000 ≤ most → leb (s * r + trailer_length) longest ≡ false
too_long most s r h l m = lt-leb (s * r + 16) 32016 (omega (arith, (div-lt_iff_lt-mul {k = r} {x = most} {y = s} h).0 l))

pub short_enough : (most s r : ℕ) → 1 ≤ r → s ≤ most / r → most ≤ 32000 → leb (s * r + trailer_length) longest ≡ true
short_enough most s r h l m = le-leb (s * r + 16) 32016 (omega (arith, (le-div_iff_mul-le {k = r} {x = s} {y = most} h).0 l))

-- ---- the refusal that is given

module _ (M N D : ℕ) (holds outputs cells : List ℕ) (room : ℕ) where
  -- by its sizes
  pub by_sizes : (r : ℕ) → r ≡ size_refusal M N D (length holds) (length outputs) (length cells) → r ≢ 0 → r ≡ write_refusal M N D holds outputs cells room
  by_sizes r e d = e ∙ first_some _ _ (λ z. d (e ∙ z)) ∙ in_parts M N D holds outputs cells room

  -- else by its records
  pub by_records : (r : ℕ) → 0 ≡ size_refusal M N D (length holds) (length outputs) (length cells) → r ≡ records_refusal M N D holds outputs cells → r ≢ 0 → r ≡ write_refusal M N D holds outputs cells room
  by_records r z e d = e ∙ first_some _ _ (λ z. d (e ∙ z)) ∙ first_rest _ _ (sym z) ∙ in_parts M N D holds outputs cells room

  -- and else by its room
  pub by_room : (r : ℕ) → 0 ≡ size_refusal M N D (length holds) (length outputs) (length cells) → 0 ≡ records_refusal M N D holds outputs cells → r ≡ room_refusal M (length holds) room
      → r ≡ write_refusal M N D holds outputs cells room
  by_room r z y e = e ∙ first_rest _ _ (sym y) ∙ first_rest _ _ (sym z) ∙ in_parts M N D holds outputs cells room
