-- `slotlog::writing::put_record` meets its contract. Assumes nothing.
use Rattle.std.proofs.Common.{◌≡◌, ◌∙◌, ◌+◌, sym, ap₂, refl, arith, rules, length, inl, inr}
use Rattle.slotlog.specs.Numbers.{length_bytes, two_bytes, four_bytes}
use Rattle.slotlog.specs.Parts.{left_next, left_none}
use Rattle.slotlog.specs.Records.{arrival_bytes, bytes_in, length_in}
use Rattle.slotlog.specs.Put.{put_as, put_on, put_none, put_next}
use Rattle.slotlog.proofs.writing.put_record.Goals as goal

pub loop-i-init : goal.loop-i-init
loop-i-init c =
    let none : c.into_iter-i-iterator.result.count ≡ 0 = search rules in
    record { outputs = search rules; cells = search rules; passed = search rules; long = refl; put = rw none (put_none _ _ _) }

pub loop-i-preserved : goal.loop-i-preserved
loop-i-preserved c =
    let at-loop = c.loop-i in
    let outputs = c.args.outputs.now in
    let cells = c.args.cells.now in
    let i = at-loop.i-iterator.count in
    let step = c.in-Some.ensures.steps in
    let next : c.next.new.self.count ≡ i + 1 = step.2 in
    let output = left_next outputs i c.in-Some.output.now 0 _ (sym at-loop.invariant.outputs ∙ step.0.0) in
    let cell = left_next cells i c.in-Some.cell.now 0 _ (sym at-loop.invariant.cells ∙ step.0.1) in
    let first = put_as (c.to_le_bytes-in-loop-i.ensures ∙ two_bytes c.in-Some.output.now) c.put-in-loop-i.ensures in
    let second = put_as (c.to_le_bytes-in-loop-i-2.ensures ∙ four_bytes c.in-Some.cell.now) c.put-in-loop-i-2.ensures in
    let both = put_as (ap₂ arrival_bytes output.1 cell.1) (put_on first second (length_bytes 2 c.in-Some.output.now) (omega arith)) in
    record {
      outputs = rw next output.2;
      cells = rw next cell.2;
      passed = omega (arith, next, output.0);
      long = search rules;
      put = rw next (put_next 6 (bytes_in outputs cells) (length_in outputs cells) at-loop.invariant.put both (omega (arith, step.1)));
    }

pub returns : goal.returns
returns c =
    let at-loop = c.loop-i in
    let hold = put_as (c.to_le_bytes.ensures ∙ four_bytes c.args.hold) c.put.ensures in
    let i = at-loop.i-iterator.count in
    let all : i ≡ length c.args.outputs.now = elim c.in-None.ensures.steps.0 [
      | inl none ↦ omega (arith, left_none c.args.outputs.now i _ at-loop.invariant.outputs none.1.0, at-loop.invariant.passed)
      | inr none ↦ omega (arith, left_none c.args.cells.now i _ at-loop.invariant.cells none.1.0, c.requires.both, at-loop.invariant.passed)
    ] in
    put_on hold (rw all at at-loop.invariant.put) (length_bytes 4 c.args.hold) refl
