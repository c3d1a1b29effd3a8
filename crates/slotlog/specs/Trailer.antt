-- The trailer: how long it is; one that was written is read back, and one that was read is written as it stood. Assumes nothing.
use Rattle.std.specs.Prelude.{◌≡◌, refl, List, [], ◌∷◌, ◌++◌, ℕ, suc, ◌+◌, ◌^◌, ◌≤◌, ◌<◌, length, take, drop}
use Rattle.std.proofs.Common.{sym, ap, ap₂, ◌∙◌, arith, lit<}
use Rattle.matches.specs.Paper.{at}
use Rattle.slotlog.specs.Paper.{number, bytes, trailer_length, trailer_bytes}
use Rattle.slotlog.specs.Parts.{Stands, stands_left, stands_right, stands_entry, part_cons, part_join}
use Rattle.slotlog.specs.Numbers.{Bytes, number_back, bytes_number}

pub length_trailer : (back M N D count : ℕ) → length (trailer_bytes back M N D count) ≡ trailer_length
unfolding trailer_bytes bytes
length_trailer back M N D count = refl

-- "length back from the trailer to the first record (4), M (2), N (2), D (2), slot count (4), the bytes 4C 50": what is read of a trailer at place p
pub record Trailer (back M N D count : ℕ) (log : List ℕ) (p : ℕ) : Type 0 where
  pub back_is : number 4 log p ≡ back
  pub m_is : number 2 log (p + 4) ≡ M
  pub n_is : number 2 log (p + 6) ≡ N
  pub d_is : number 2 log (p + 8) ≡ D
  pub count_is : number 4 log (p + 10) ≡ count
  pub mark_is : at log (p + 14) ≡ 76
  pub end_is : at log (p + 15) ≡ 80

pub trailer_back : (back M N D count : ℕ) {log : List ℕ} {p : ℕ} → back < 2 ^ 32 → M < 65536 → N < 65536 → D < 65536 → count < 2 ^ 32
    → Stands (trailer_bytes back M N D count) log p → Trailer back M N D count log p
unfolding trailer_bytes bytes
trailer_back back M N D count {log} {p} lb lm ln ld lc here =
    let to-m = bytes 4 back ++ bytes 2 M in
    let to-n = to-m ++ bytes 2 N in
    let to-d = to-n ++ bytes 2 D in
    let to-count = to-d ++ bytes 4 count in
    let s-count = stands_left to-count (76 ∷ 80 ∷ []) here in
    let s-d = stands_left to-d (bytes 4 count) s-count in
    let s-n = stands_left to-n (bytes 2 D) s-d in
    let s-m = stands_left to-m (bytes 2 N) s-n in
    record {
      back_is = number_back 4 back lb (stands_left (bytes 4 back) (bytes 2 M) s-m);
      m_is = number_back 2 M lm (stands_right (bytes 4 back) (bytes 2 M) 4 refl s-m);
      n_is = number_back 2 N ln (stands_right to-m (bytes 2 N) 6 refl s-n);
      d_is = number_back 2 D ld (stands_right to-n (bytes 2 D) 8 refl s-d);
      count_is = number_back 4 count lc (stands_right to-d (bytes 4 count) 10 refl s-count);
      mark_is = stands_entry 14 (lit< tt) here;
      end_is = stands_entry 15 (lit< tt) here;
    }

pub trailer_again : (log : List ℕ) (p : ℕ) → Bytes log → p + trailer_length ≤ length log → at log (p + 14) ≡ 76 → at log (p + 15) ≡ 80
    → trailer_bytes (number 4 log p) (number 2 log (p + 4)) (number 2 log (p + 6)) (number 2 log (p + 8)) (number 4 log (p + 10)) ≡ take trailer_length (drop p log)
unfolding trailer_bytes
trailer_again log p small inside mark end =
    join 14 2
    (join 10 4
    (join 8 2
    (join 6 2
    (join 4 2 (bytes_number 4 log p small (omega arith)) (bytes_number 2 log (p + 4) small (omega arith)))
    (bytes_number 2 log (p + 6) small (omega arith)))
    (bytes_number 2 log (p + 8) small (omega arith)))
    (bytes_number 4 log (p + 10) small (omega arith)))
    marks
  where
    join : {a b : List ℕ} (n m : ℕ) → a ≡ take n (drop p log) → b ≡ take m (drop (p + n) log) → a ++ b ≡ take (n + m) (drop p log)
    join n m ea eb = ap₂ ◌++◌ ea eb ∙ part_join log p n m

    marks : 76 ∷ 80 ∷ [] ≡ take 2 (drop (p + 14) log)
    marks =
        let next : suc (p + 14) ≡ p + 15 = omega arith in
        ap₂ (λ (a b : ℕ). a ∷ b ∷ []) (sym mark) (sym (ap (at log) next ∙ end))
        ∙ ap (λ (r : List ℕ). at log (p + 14) ∷ r) (sym (part_cons log (suc (p + 14)) 0 (omega arith)))
        ∙ sym (part_cons log (p + 14) 1 (omega arith))
