-- The invariant: the arrivals of the inputs passed have been taken. Assumes nothing.
use Rattle.std.proofs.Common.{◌≡◌}
use Rattle.slot.specs.Paper.{take_all, begun}
use Rattle.slot.specs.Answers.{state_of, taking_of}
use Rattle.slot.specs.Arriving.{Along}
use Rattle.slot.proofs.Record.take_all.Given as goal

abbrev pub invariant-loop-k : goal.invariant-loop-k
invariant-loop-k l = Along (state_of l.initial.self l.initial.cells l.initial.stamps) l.k (taking_of l.self l.dropped l.cells l.stamps)
    × (taking_of l.self l.dropped l.cells l.stamps ≡ take_all l.arrivals l.k (begun (state_of l.initial.self l.initial.cells l.initial.stamps)))
