-- `lines::Line::sendings` meets its contract. Assumes nothing.
use Rattle.std.proofs.Common.{◌≡◌, length, arith}
use Rattle.slot.specs.Sending.{partner_at}
use Rattle.lines.specs.Paper.{sendings}
use Rattle.lines.specs.Text.{same}
use Rattle.lines.specs.Parts.{next_input}
use Rattle.lines.proofs.Line.sendings.Goals as goal

pub loop-k-init : goal.loop-k-init
unfolding sendings
loop-k-init c = record { sent = same _ 0 }

pub loop-k-preserved : goal.loop-k-preserved
loop-k-preserved c =
    let at-loop = c.loop-k in
    let partners = c.args.report.now.partners in
    let full : length partners ≡ 32 = omega (arith) in
    let below = c.loop-k-test.true in
    record { sent = next_input _ _ _ (partner_at partners at-loop.k (omega arith)) at-loop.invariant.sent c.sent.ensures }
