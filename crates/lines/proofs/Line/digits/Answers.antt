-- `lines::Line::digits` meets its contract. Assumes nothing.
use Rattle.std.proofs.Common.{List, ℕ, ◌++◌, ap, ◌∙◌, arith}
use Rattle.lines.specs.Parts.{digits_add}
use Rattle.lines.proofs.Line.digits.Goals as goal

pub returns : goal.returns
returns c =
    let long = c.args.self.now.text.bytes in
    digits_add _ _ c.args.x (c.push_str.ensures.bytes ∙ ap (λ (d : List ℕ). long ++ d) c.format.ensures.text) (omega arith)
