-- Two lines with one text: what a promise about a line's text fixes, and no more. Assumes nothing.
use Rattle.std.specs.Prelude.{◌≡◌, List, ℕ, ◌++◌, ◌<◌, length}
use Rattle.std.proofs.Common.{sym, ap, ◌∙◌, arith, length-append}
use Rattle.std.proofs.lemmas.List.{get_or_append_left}
use Rattle.matches.specs.Paper.{at}
use Rattle.lines.specs.declared.Line.{Line}
use Rattle.lines.specs.Text.{room, text_of, len_of}

-- the bytes of the line: its text, and what stands behind it
abbrev pub bytes_of : Line → List ℕ
bytes_of l = l.text.bytes ++ l.text.spare

-- there are 1,536, as its type says
abbrev pub Whole : Line → Type 0
Whole l = length (bytes_of l) ≡ room

pub record SameText (r s : Line) : Type 0 where
  pub len : len_of r ≡ len_of s
  pub bytes : (k : ℕ) → k < len_of r → at (bytes_of r) k ≡ at (bytes_of s) k
  pub behind : length r.text.spare ≡ length s.text.spare

-- the three functions of `lines`
pub text_unique : (r s : Line) → Whole r → Whole s → text_of r ≡ text_of s → SameText r s
text_unique r s wr ws e = record { len = long; bytes = byte; behind = rest }
  where
    long : len_of r ≡ len_of s
    long = ap length e

    byte : (k : ℕ) → k < len_of r → at (bytes_of r) k ≡ at (bytes_of s) k
    byte k l = get_or_append_left r.text.bytes r.text.spare 0 k l ∙ ap (λ (t : List ℕ). at t k) e ∙ sym (get_or_append_left s.text.bytes s.text.spare 0 k (omega (arith, l, long)))

    rest : length r.text.spare ≡ length s.text.spare
    rest = omega (arith, wr, ws, long, length-append r.text.bytes r.text.spare, length-append s.text.bytes s.text.spare)
