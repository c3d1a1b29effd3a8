-- `slot::Record::send_all` meets its contract. Assumes nothing.
use Rattle.card.specs.declared.Out.{Out}
use Rattle.card.specs.Paper.{out}
use Rattle.std.proofs.Common.{◌<◌, length, take, length-take-le, get_or-take, arith, sym, ◌∙◌, ◌≡◌, refl, ap, subst, add-one, rules}
use Rattle.slot.specs.declared.Report.{Report}
use Rattle.slot.specs.Paper as paper
use Rattle.slot.specs.Paper.{send_all}
use Rattle.slot.specs.Answers.{leaving_of, sending_of}
use Rattle.slot.specs.Sending.{Along, along_unsent, one_keeps, partner_at, all_step}
use Rattle.slot.proofs.Record.send_all.Goals as goal
use Rattle.slot.proofs.Record.send_all.Goals.{in-Some, in_default}

pub loop-k-init : goal.loop-k-init
unfolding send_all paper.silent
loop-k-init c = let e = c.none.ensures in
    let cells = ap (λ (r : paper.Report). r.cells) e in
    let waits = ap (λ (r : paper.Report). r.waits) e in
    rw (cells, waits) (along_unsent _ c.requires.ready, refl, refl)

pub loop-k-preserved : goal.loop-k-preserved
loop-k-preserved c = let r = c.send_one in
    let v = c.loop-k.invariant in
    let m = c.args.self.now.card.m in
    let p = c.args.partners in
    let high = c.requires.ready.sizes.ports.ins.high in
    let full : length p ≡ 32 = search rules in
    let n : length (take m p) ≡ m = length-take-le m p (omega arith) in
    let l : c.loop-k.k < m = omega (arith, c.loop-k-test.true) in
    let e = ap (λ (o : Out). o.0) (get_or-take m p c.loop-k.k (out 0) l) ∙ partner_at p c.loop-k.k (omega arith) in
    let w = c.requires.partners.all c.loop-k.k l in
    let told : leaving_of r.new.self c.match-send_one.report r.new.cells r.new.stamps ≡ sending_of c.loop-k.k r.result r.new.self r.new.cells r.new.stamps c.loop-k.report.cells c.loop-k.report.waits = elim c.match-send_one.branch [
      | in-Some w ↦ rw (w.in-Some.is, w.report-is)
      | in_default w ↦ rw (w.in_default.is, w.report-is)
    ] in
    let s = told ∙ r.ensures c.loop-k.report.cells c.loop-k.report.waits in (
      rw add-one (subst (Along _ _) (sym s) (one_keeps _ _ _ _ v.0 l (rw e w))),
      all_step _ _ _ _ _ _ v.1 e s,
      elim c.match-send_one.branch [
        | in-Some w ↦ ap (λ (x : Report). x.partners) w.report-is ∙ v.2
        | in_default w ↦ ap (λ (x : Report). x.partners) w.report-is ∙ v.2
      ],
    )
