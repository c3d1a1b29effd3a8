-- `slot::Record::take_all` meets its contract. Assumes nothing.
use Rattle.card.specs.Paper.{out}
use Rattle.std.proofs.Common.{◌<◌, length, take, length-take-le, get_or-take, sym, ◌∙◌, ◌≡◌, ◌+◌, ◌^◌, cond, refl, ap, subst, add-one, arith, rules}
use Rattle.masks.proofs.Laws.{with_above}
use Rattle.slot.specs.Paper.{take_one, take_all}
use Rattle.slot.specs.Arriving.{Along, along_begun, one_keeps, wanted}
use Rattle.slot.proofs.Record.take_all.Goals as goal
use Rattle.slot.proofs.Record.take_all.Goals.{then-take_one, else-take_one}

pub loop-k-init : goal.loop-k-init
unfolding take_all
loop-k-init c = (along_begun _ c.requires.ready, refl)

pub take_one-requires : goal.take_one-requires
take_one-requires c = let a = c.loop-k.invariant.0 in
    let m = c.args.self.now.card.m in
    let outputs = c.args.arrivals.now.outputs in
    let high = c.requires.ready.sizes.ports.ins.high in
    let full : length outputs ≡ 32 = search rules in
    let n : length (take m outputs) ≡ m = length-take-le m outputs (omega arith) in
    let l : c.loop-k.k < m = omega (arith, c.loop-k-test.true) in
    let w = wanted _ _ _ c.requires.arrivals c.loop-k.k (omega arith) in
    record { ready = a.ready; input = rw a.card l; output = rw (a.card, get_or-take m outputs c.loop-k.k (out 0) l) w; low = omega (arith, a.low) }

pub loop-k-preserved : goal.loop-k-preserved
unfolding take_all
loop-k-preserved c = let v = c.loop-k.invariant in
    let k = c.loop-k.k in
    let d = c.loop-k.dropped in
    let m = c.args.self.now.card.m in
    let outputs = c.args.arrivals.now.outputs in
    let high = c.requires.ready.sizes.ports.ins.high in
    let full : length outputs ≡ 32 = search rules in
    let n : length (take m outputs) ≡ m = length-take-le m outputs (omega arith) in
    let l : k < m = omega (arith, c.loop-k-test.true) in
    let w = wanted _ _ _ c.requires.arrivals k (omega arith) in
    let now : c.if-take_one.dropped ≡ cond c.take_one.result (d + 2 ^ k) d = elim c.if-take_one.branch [
      | then-take_one w ↦ rw w.if-take_one.true (w.dropped-is ∙ with_above d k _ (omega arith) v.0.low (search rules) w.with-dropped.ensures)
      | else-take_one w ↦ rw w.if-take_one.false w.dropped-is
    ] in
    let e = rw (← now, get_or-take m outputs k (out 0) l) at (c.take_one.ensures d) in (
      rw add-one (subst (Along _ _) (sym e) (one_keeps _ _ _ _ _ v.0 l w)),
      rw add-one (e ∙ ap (take_one _ _ _) v.1),
    )
