-- `slot::Record::queues_fit` meets its contract. Assumes nothing.
use Rattle.std.proofs.Common.{◌≡◌, ◌∙◌, ℕ, ◌*◌, ◌&&◌, Bool, length, ap, rules, tests}
use Rattle.std.proofs.lemmas.Iterator.{YieldsList-from_slice, YieldsList-from_zip}
use Rattle.std.proofs.lemmas.Iterator.Consumers.{YieldsList-from_enumerate, fold_from_yields_List}
use Rattle.masks.specs.Paper.{every}
use Rattle.matches.specs.Paper.{at}
use Rattle.queue.specs.Paper.{queue_fits}
use Rattle.slot.specs.Paper.{queues, queues_fit}
use Rattle.slot.proofs.Whole.{fold_every}
use Rattle.slot.proofs.Record.queues_fit.Goals as goal

pub returns : goal.returns
unfolding queues_fit
returns c =
    let r = c.args.self.now in
    let fits : ℕ → ℕ → ℕ → Bool = queue_fits (r.card.m * r.card.n) r.card.d in
    let n : length r.heads ≡ queues = search rules in
    fold_from_yields_List _ (λ (ok : Bool) (x : ℕ × (ℕ × ℕ)). ok && fits x.0 x.1.0 x.1.1) _ c.fold.result c.fold.ensures.ran
    (YieldsList-from_enumerate (YieldsList-from_zip (YieldsList-from_slice r.heads cc) (YieldsList-from_slice r.counts cc)) cc)
    (λ a x b q k. search (rules, tests))
    ∙ fold_every fits r.heads r.counts (search rules)
    ∙ ap (λ (k : ℕ). every k (λ j. fits j (at r.heads j) (at r.counts j))) n
