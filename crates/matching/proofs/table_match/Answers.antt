-- `matching::table_match` meets its contract. Assumes nothing.
use Rattle.std.proofs.Common.{sym}
use Rattle.std.proofs.lemmas.Result.{err_from_is_err_and}
use Rattle.matches.specs.Paper.{table_in, table_out, table_rows, table_match}
use Rattle.matching.specs.Answers.{answer_refused, answer_accepted}
use Rattle.matching.specs.Queues.{accepted_sized}
use Rattle.matching.proofs.table_match.Goals as goal

pub returns-in_err-of_table : goal.returns-in_err-of_table
unfolding table_match
returns-in_err-of_table c = let p = err_from_is_err_and c.from_residual.result c.from_residual.ensures.1 in
    let counts = c.args.counts.now in
    rw (p.1, p.2) (answer_refused _ _ (table_rows c.args.m c.args.n counts c.args.hold) (table_in c.args.m c.args.n counts) (table_out c.args.m c.args.n counts) c.in_err-of_table.ensures)

pub invariant_of-table : goal.invariant_of-table
invariant_of-table c = record { sized = accepted_sized _ _ _ c.args.hold (sym c.in_ok-of_table.ensures) }

pub returns : goal.returns
unfolding table_match
returns c = answer_accepted _ _ _ _ _ (sym c.in_ok-of_table.ensures) (rw (c.rows.ensures, c.in_totals-inputs.ensures.0, c.out_totals-outputs.ensures.0) at c.heaviest.ensures)
