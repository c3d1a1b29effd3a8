-- `card::Arrivals::fit` meets its contract: the fold tests each place. Assumes nothing.
use Rattle.std.specs.Prelude.{refl, ℕ, List}
use Rattle.std.proofs.Common.{◌∙◌, ◌&&◌, Bool, ap, rules}
use Rattle.std.specs.List.{zip}
use Rattle.std.proofs.lemmas.Iterator.{YieldsList-from_zip, YieldsList-from_range, YieldsList-from_slice}
use Rattle.std.proofs.lemmas.Iterator.Consumers.{fold_from_yields_List}
use borrow.Author.Tests.{tests}
use Rattle.masks.proofs.Chains.{every_folded, long_zip, at_zip}
use Rattle.card.specs.Paper.{out, arrival_fits, arrivals_fit, fits_at}
use Rattle.card.specs.declared.Out.{Out}
use Rattle.card.proofs.Arrivals.fit.Goals as goal

pub returns : goal.returns
unfolding arrivals_fit
returns c =
    let outputs = c.args.self.now.outputs in
    let cells = c.args.self.now.cells in
    let given : List (Out × ℕ) = zip outputs cells in
    let test : ℕ → (Out × ℕ) → Bool = λ k x. arrival_fits c.args.m c.args.n k (x.0).0 x.1 in
    let items = YieldsList-from_zip {s = c.zip.result} (YieldsList-from_range 0 32 32 (search rules) refl) (YieldsList-from_zip (YieldsList-from_slice outputs (search rules)) (YieldsList-from_slice cells (search rules))) in
    fold_from_yields_List _ (λ (ok : Bool) (x : ℕ × (Out × ℕ)). ok && test x.0 x.1) _ c.fold.result c.fold.ensures.ran items (λ a x b q k. search (rules, tests))
    ∙ every_folded (fits_at c.args.m c.args.n c.args.self.now) test given 32 (out 0, 0) (long_zip 32 outputs cells (search rules) (search rules))
    (λ k l. ap (test k) (at_zip 32 outputs cells k (out 0, 0) (search rules) (search rules) l))
