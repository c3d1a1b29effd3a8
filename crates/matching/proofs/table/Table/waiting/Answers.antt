-- `matching::table::Table::waiting` meets its contract. Assumes nothing.
use Rattle.std.proofs.Common.{◌≡◌, arith, rules}
use Prim.Native.Nat.{◌+◌, ◌*◌}
use lib.ListN.{get_or}
use Rattle.std.specs.List.{between}
use Rattle.std.proofs.lemmas.List.Edits.{get_or-between}
use Rattle.matches.specs.Paper.{at, count}
use Rattle.matching.specs.Queues.{waits, mask_none, mask_step}
use Rattle.matching.proofs.table.Table.waiting.Goals as goal

pub loop-j-init : goal.loop-j-init
loop-j-init c = (search rules, mask_none _)

pub loop-j-preserved : goal.loop-j-preserved
unfolding waits count
loop-j-preserved c =
    let from = c.args.i * c.args.self.now.n in
    let here : get_or (between from (from + c.args.self.now.n) c.args.self.now.counts.now) c.loop-j.j 0 ≡ at c.args.self.now.counts.now (from + c.loop-j.j) =
    get_or-between c.args.self.now.counts.now from (from + c.args.self.now.n) c.loop-j.j 0 (omega arith) in
    (search rules, mask_step _ _ _ _ (omega arith) (search rules) c.loop-j.invariant.1 (rw here at c.mark-row.ensures))
