-- The parts of a line, each as a law about its definition: a number's digits, and what an input sent. Assumes nothing.
use Rattle.std.specs.Prelude.{◌≡◌, cond, List, [], ◌∷◌, ◌++◌, ℕ, suc, ◌+◌, ◌*◌, ◌/◌, ◌%◌, ◌^◌, ◌≤◌, ◌<◌, length, eqb}
use Rattle.std.specs.Fmt as fmt
use Rattle.std.proofs.Common.{sym, ◌∙◌, add-one, arith, lt-ltb, le-ltb, eq-eqb, ne_eqb}
use Rattle.std.proofs.lemmas.Fmt.{decimal_from_appends, length-decimal-le}
use Rattle.card.specs.Paper.{none}
use Rattle.matches.specs.Paper.{at, partner}
use Rattle.slot.specs.Paper.{Report}
use Rattle.lines.specs.declared.Line.{Line}
use Rattle.lines.specs.Paper.{digits, decimal, sending, sendings}
use Rattle.lines.specs.Text.{text_of, Adds, same, adds, then}

-- ---- a number's digits

one_digit : (most x : ℕ) → x < 10 → digits (suc most) x ≡ (48 + x) ∷ []
unfolding digits
one_digit most x h = rw (lt-ltb x 10 h)

more_digits : (most x : ℕ) → 10 ≤ x → digits (suc most) x ≡ digits most (x / 10) ++ (48 + x % 10) ∷ []
unfolding digits
more_digits most x h = rw (le-ltb x 10 h)

-- the library's decimal of a number of 32 bits
pub decimal_is : (x : ℕ) → x < 2 ^ 32 → fmt.decimal x ≡ decimal x
decimal_is x h =
    let short : length (fmt.decimal x) ≤ 10 = length-decimal-le 10 x (omega arith) (omega arith) (omega arith) in
    sym (decimal_from_appends digits (record { one = one_digit; more = more_digits }) 10 x (omega arith) short)

pub digits_add : (l r : Line) (x : ℕ) → text_of r ≡ text_of l ++ fmt.decimal x → x < 2 ^ 32 → Adds l r (decimal x) 10
digits_add l r x e h =
    let short : length (fmt.decimal x) ≤ 10 = length-decimal-le 10 x (omega arith) (omega arith) (omega arith) in
    rw (sym (decimal_is x h)) (adds l r _ 10 e short)

-- ---- what the inputs sent

abbrev pub sent : (input output cell wait : ℕ) → List ℕ
sent input output cell wait = cond (eqb output none) [] (sending input output cell wait)

pub unmatched : (l : Line) (input output cell wait : ℕ) → output ≡ none → Adds l l (sent input output cell wait) 44
unmatched l input output cell wait e = rw (eq-eqb output none e) (same l 44)

pub matched : {l r : Line} (input output cell wait : ℕ) → (output ≡ none → ⊥) → Adds l r (sending input output cell wait) 44
    → Adds l r (sent input output cell wait) 44
matched input output cell wait e a = rw (ne_eqb output none e) a

-- one input more
pub next_input : {l r s : Line} (report : Report) (k output : ℕ) → output ≡ partner report.partners k → Adds l r (sendings k report) (44 * k)
    → Adds r s (sent k output (at report.cells k) (at report.waits k)) 44 → Adds l s (sendings (k + 1) report) (44 * (k + 1))
unfolding sendings
next_input report k output e a b =
    let t = then a b in
    record { says = t.says ∙ rw (add-one, e); fits = omega (arith, t.fits) }
