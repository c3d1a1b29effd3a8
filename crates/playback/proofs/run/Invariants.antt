-- The card stands as after the slots passed, and their lines are written, where no write has failed.
use Rattle.std.proofs.Common.{◌≡◌, OnOk}
use Rattle.std.specs.Io.KnownBytes.{Appends}
use Rattle.slot.specs.Answers.{state_of}
use Rattle.playback.specs.Printed.{played, begun}
use Rattle.playback.proofs.run.Given as goal

abbrev pub invariant-loop-k : goal.invariant-loop-k
invariant-loop-k g l = record {
  state : state_of l.record l.cells l.stamps ≡ (played l.log (begun l.fn.checked.card) l.k).state;
  text : OnOk l.written (Appends (g.W.Write.contents l.initial.out) (g.W.Write.contents l.out) (played l.log (begun l.fn.checked.card) l.k).text);
}
