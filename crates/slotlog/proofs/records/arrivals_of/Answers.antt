-- `slotlog::records::arrivals_of` meets its contract. Assumes nothing.
use Rattle.std.proofs.Common.{◌∙◌, ap₂, ℕ, arith}
use Rattle.slotlog.specs.Arrived.{arrived, arrived_none, arrived_step}
use Rattle.slotlog.proofs.records.arrivals_of.Goals as goal

pub loop-i-init : goal.loop-i-init
loop-i-init g c = record { passed = omega arith; put = λ f h _. c.none-arrivals.ensures ∙ arrived_none f h }

pub loop-i-preserved : goal.loop-i-preserved
loop-i-preserved g c = record {
  passed = omega arith;
  put = λ f h e.
      let this = e c.loop-i.i c.at-output.result c.loop-i-test.true c.at-output.ensures in
      ap₂ (λ (o x : ℕ). arrived c.loop-i.i o x c.loop-i.arrivals) this.0 this.1
      ∙ arrived_step f h c.loop-i.i c.loop-i.arrivals (omega (arith, c.requires.few)) (c.loop-i.invariant.put f h e);
}
