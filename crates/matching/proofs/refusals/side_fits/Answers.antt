-- `matching::refusals::side_fits` meets its contract: the fold tests each place. Assumes nothing.
use Rattle.std.specs.Prelude.{refl}
use Rattle.std.proofs.Common.{◌∙◌, ◌&&◌, ℕ, Bool, rules}
use Rattle.std.proofs.lemmas.Iterator.{YieldsList-from_zip, YieldsList-from_range, YieldsList-from_slice}
use Rattle.std.proofs.lemmas.Iterator.Consumers.{fold_from_yields_List}
use borrow.Author.Tests.{tests}
use Rattle.masks.proofs.Chains.{every_folded}
use Rattle.masks.specs.Paper.{has}
use Rattle.matches.specs.Paper.{at, weight_fits}
use Rattle.matching.specs.Asking.{side_fits}
use Rattle.matching.proofs.refusals.side_fits.Goals as goal

pub returns : goal.returns
unfolding side_fits
returns c =
    let l = c.args.weights in
    let test : ℕ → ℕ → Bool = λ k x. weight_fits (has c.args.asking k) x in
    let items = YieldsList-from_zip {s = c.zip.result} (YieldsList-from_range 0 32 32 (search rules) refl) (YieldsList-from_slice l (search rules)) in
    fold_from_yields_List _ (λ (ok : Bool) (x : ℕ × ℕ). ok && test x.0 x.1) _ c.fold.result c.fold.ensures.ran items (λ a x b q k. search (rules, tests))
    ∙ every_folded (λ k. test k (at l k)) test l 32 0 (search rules) (λ k h. refl)
