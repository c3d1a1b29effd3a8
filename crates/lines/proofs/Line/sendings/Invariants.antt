-- The invariant: the line has what the inputs passed have sent. Assumes nothing.
use Rattle.std.proofs.Common.{◌*◌}
use Rattle.slot.specs.Answers.{report_of}
use Rattle.lines.specs.Paper.{sendings}
use Rattle.lines.specs.Text.{Adds}
use Rattle.lines.proofs.Line.sendings.Given as goal

abbrev pub invariant-loop-k : goal.invariant-loop-k
invariant-loop-k l = record {
  sent : Adds l.initial.self l.self (sendings l.k (report_of l.report)) (44 * l.k);
}
