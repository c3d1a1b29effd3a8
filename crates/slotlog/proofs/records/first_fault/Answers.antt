-- `slotlog::records::first_fault` meets its contract. Assumes nothing.
use Rattle.std.proofs.Common.{◌≡◌, sym, ap, ◌∙◌, ◌<◌, ◌≤◌, arith}
use Rattle.card.specs.Paper.{refusal_number}
use Rattle.card.specs.Limits.{refused}
use Rattle.slotlog.specs.Paper.{slot_refusal}
use Rattle.slotlog.specs.Slots.{slot_from}
use Rattle.slotlog.specs.Faults.{fault_here, fault_past, fault_end}
use Rattle.slotlog.proofs.records.first_fault.Goals as goal

pub returns-in-Err : goal.returns-in-Err
returns-in-Err g c = λ f e.
    let card = c.args.card in
    let k = c.loop-k.k in
    let l : k < c.args.count = omega arith in
    let here = ap (slot_refusal card.m card.n) (e k c.slot.result l c.slot.ensures) in
    let r = refusal_number c.in-Err.refusal in
    let found = slot_refusal card.m card.n (slot_from c.slot.result) in
    let refusal : r ≡ slot_refusal card.m card.n (f k) = ◌∙◌ {b = found} c.in-Err.ensures here in
    sym (c.loop-k.invariant.rest f e ∙ fault_here (λ k. slot_refusal card.m card.n (f k)) c.args.count k r l (sym refusal) (refused c.in-Err.refusal))

pub loop-k-preserved : goal.loop-k-preserved
loop-k-preserved g c = record {
  passed = omega arith;
  rest = λ f e.
      let card = c.args.card in
      let k = c.loop-k.k in
      let l : k < c.args.count = omega arith in
      let here = ap (slot_refusal card.m card.n) (e k c.slot.result l c.slot.ensures) in
      let found = slot_refusal card.m card.n (slot_from c.slot.result) in
      let none : 0 ≡ slot_refusal card.m card.n (f k) = ◌∙◌ {b = found} c.in_default.ensures here in
      c.loop-k.invariant.rest f e ∙ fault_past (λ k. slot_refusal card.m card.n (f k)) c.args.count k l (sym none);
}

pub returns : goal.returns
returns g c = λ f e. let all : c.args.count ≤ c.loop-k.k = omega arith in sym (c.loop-k.invariant.rest f e ∙ fault_end _ c.args.count c.loop-k.k all)
