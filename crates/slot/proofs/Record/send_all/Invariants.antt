-- The invariant: the inputs passed have sent. Assumes nothing.
use Rattle.std.proofs.Common.{◌≡◌}
use Rattle.search.specs.First.{numbers}
use Rattle.slot.specs.Paper.{send_all, unsent}
use Rattle.slot.specs.Answers.{state_of, leaving_of}
use Rattle.slot.specs.Sending.{Along}
use Rattle.slot.proofs.Record.send_all.Given as goal

abbrev pub invariant-loop-k : goal.invariant-loop-k
invariant-loop-k l = Along (state_of l.initial.self l.initial.cells l.initial.stamps) l.k (leaving_of l.self l.report l.cells l.stamps)
    × (leaving_of l.self l.report l.cells l.stamps ≡ send_all (numbers l.fn.partners) l.k (unsent (state_of l.initial.self l.initial.cells l.initial.stamps)))
    × (l.report.partners ≡ l.fn.partners)
