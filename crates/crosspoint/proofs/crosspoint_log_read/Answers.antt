-- `crosspoint::crosspoint_log_read` meets its contract. Assumes nothing.
use Rattle.std.proofs.Common.{sym, ◌∙◌, ap, ap₂, arith, rules}
use Rattle.std.proofs.lemmas.Result.{err_from_is_err_and}
use mathlib.Core.List.{List, [], ◌∷◌}
use Prim.Native.Nat.{ℕ}
use Rattle.card.specs.Limits as Limits
use Rattle.search.specs.First.{numbers}
use Rattle.slotlog.specs.Paper.{Read}
use Rattle.crosspoint.specs.Paper.{read_lists}
use Rattle.crosspoint.specs.Outcomes.{read_into}
use Rattle.crosspoint.proofs.Outcomes.{long_passed, long_refused, refused, accepted, passed, read_long_lem}
use Rattle.crosspoint.proofs.Copy.{set_only}
use Rattle.crosspoint.proofs.crosspoint_log_read.Goals as goal

pub returns-in_err-read_long : goal.returns-in_err-read_long
unfolding read_lists
returns-in_err-read_long c = let p = err_from_is_err_and c.from_residual.result c.from_residual.ensures.1 in
    rw (p.1, p.2) (long_refused _ _ _ _ _ c.in_err-read_long.ensures)

pub returns-in_err-found : goal.returns-in_err-found
unfolding read_lists
returns-in_err-found c = let p = err_from_is_err_and c.from_residual-in_err-found.result c.from_residual-in_err-found.ensures.1 in
    rw (p.1, p.2) (refused _ _ _ _ (ap (λ (r : Read). r.refusal) c.in_err-found.ensures) (Limits.refused _) ∙ passed _ 2 _ _ _ (long_passed _ c.in_ok-read_long.ensures))

pub bounds-hold-0 : goal.bounds-hold-0
bounds-hold-0 c = let h = read_long_lem _ _ _ (long_passed _ c.in_ok-read_long.ensures) in omega (arith, h.hold)

pub put_outputs-requires : goal.put_outputs-requires
put_outputs-requires c = (read_long_lem _ _ _ (long_passed _ c.in_ok-read_long.ensures)).outputs

pub copy_from_slice-requires : goal.copy_from_slice-requires
copy_from_slice-requires c = (read_long_lem _ _ _ (long_passed _ c.in_ok-read_long.ensures)).cells ∙ search rules

pub returns : goal.returns
unfolding read_lists
returns c =
    let f = c.in_ok-found.ensures in
    let t = long_passed _ c.in_ok-read_long.ensures in
    let first = set_only c.args.hold.now c.in_ok-found.found.hold (read_long_lem _ _ _ t).hold in
    let rest = ap₂ (λ (x y : List ℕ). read_into (c.in_ok-found.found.hold ∷ []) x y) c.put_outputs.ensures c.copy_from_slice.ensures.after in
    accepted _ _ _ _ (sym (ap (λ (r : Read). r.refusal) f))
    (ap (λ (x : List ℕ). read_into x c.put_outputs.new.list c.copy_from_slice.new.self) first ∙ rest
    ∙ ap (λ (r : Read). read_into (r.slot.hold ∷ []) (numbers r.slot.arrivals.outputs) r.slot.arrivals.cells) f)
    ∙ passed _ 2 _ _ _ t
