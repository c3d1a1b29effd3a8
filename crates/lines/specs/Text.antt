-- The text of a line, and what it means to add to it. Assumes nothing.
use Rattle.std.specs.Prelude.{◌≡◌, List, [], ◌++◌, ℕ, ◌+◌, ◌≤◌, length}
use Rattle.std.proofs.Common.{sym, ap, ◌∙◌, append_assoc, append-nil, length-append, arith}
use Rattle.lines.specs.declared.Line.{Line}

-- how many bytes a line has room for
abbrev pub room : ℕ
room = 1536

abbrev pub text_of : Line → List ℕ
text_of l = l.text.bytes

-- how many bytes it has
abbrev pub len_of : Line → ℕ
len_of l = length l.text.bytes

-- r is l with this text behind it, which has at most so many bytes
pub record Adds (l r : Line) (text : List ℕ) (most : ℕ) : Type 0 where
  pub says : text_of r ≡ text_of l ++ text
  pub fits : len_of r ≤ len_of l + most

-- nothing added
pub same : (l : Line) (most : ℕ) → Adds l l [] most
same l most = record { says = sym (append-nil (text_of l)); fits = omega arith }

-- one text behind the other
pub then : {l r s : Line} {a b : List ℕ} {m n : ℕ} → Adds l r a m → Adds r s b n → Adds l s (a ++ b) (m + n)
then {l} {r} {s} {a} {b} f g =
    record {
      says = g.says ∙ ap (λ (t : List ℕ). t ++ b) f.says ∙ append_assoc (text_of l) a b;
      fits = omega (arith, f.fits, g.fits);
    }

-- a text at the line's end
pub adds : (l r : Line) (text : List ℕ) (most : ℕ) → text_of r ≡ text_of l ++ text → length text ≤ most → Adds l r text most
adds l r text most e h = record { says = e; fits = omega (arith, h, ap length e ∙ length-append (text_of l) text) }

-- a whole line: what it starts with, and what is behind it
pub whole : {l r : Line} {text : List ℕ} {most : ℕ} (letter : List ℕ) → text_of l ≡ letter → Adds l r text most → text_of r ≡ letter ++ text
whole {text = text} letter e a = a.says ∙ ap (λ (t : List ℕ). t ++ text) e
