-- `search::reach::Search::step` meets its contract. Assumes nothing.
use Rattle.std.proofs.Common.{refl, arith, rules}
use Rattle.search.specs.Steps.{passes, stops, can_push, pushes}
use Rattle.search.specs.Stage.{stage_room}
use Rattle.search.proofs.reach.Search.step.Goals as goal

pub queued-x-requires : goal.queued-x-requires
queued-x-requires c = omega (arith, stage_room c.requires.stage_of)

pub returns-then-fresh-eq0 : goal.returns-then-fresh-eq0
returns-then-fresh-eq0 c = passes _ _ _ c.requires.stage_of c.requires.waiting.0 _ _ _ c.queued-x.ensures refl c.minus-fresh.ensures _ c.if-fresh-eq0.true (record { queue = refl; len = refl; step = refl; outs = refl; ins = refl; found = refl }) c.requires.waiting.1

pub returns-then-free-ne0 : goal.returns-then-free-ne0
returns-then-free-ne0 c = stops _ _ _ c.requires.stage_of c.requires.waiting.0 _ _ _ c.queued-x.ensures refl c.minus-fresh.ensures c.requires.paired _ c.both-free.ensures _ (search rules) c.first.ensures _ (record { queue = refl; len = refl; same = refl; outs = refl; ins = refl; found = refl })

pub push-requires : goal.push-requires
push-requires c = can_push c.args.rows.now _ c.args.self.now c.requires.stage_of c.requires.waiting.0 _ _ _ c.queued-x.ensures refl c.minus-fresh.ensures c.requires.paired _ c.both-free.ensures c.if-free-ne0.false _ (search rules) c.first-j.ensures _ c.holder.ensures

pub returns : goal.returns
returns c = pushes _ _ _ c.requires.stage_of c.requires.waiting.0 _ _ _ c.queued-x.ensures refl c.minus-fresh.ensures c.requires.paired _ c.both-free.ensures c.if-free-ne0.false _ (search rules) c.first-j.ensures _ c.holder.ensures _ c.push.ensures c.requires.waiting.1
