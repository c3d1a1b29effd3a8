-- `slot::Record::fresh` meets its contract. Assumes nothing.
use Rattle.std.proofs.Common.{◌≡◌, sym, Err, refl, rules}
use Rattle.slot.proofs.Refused.{fresh_refused, fresh_made}
use Rattle.card.specs.Limits.{refused}
use Rattle.slot.proofs.Record.fresh.Goals as goal

pub returns-in_err-of_fresh : goal.returns-in_err-of_fresh
returns-in_err-of_fresh c = let r = c.in_err-of_fresh in
    let e : c.from_residual.result ≡ Err r.field-0.0 = search rules in
    rw e (fresh_refused _ _ _ _ _ r.ensures (refused _) refl)

pub returns : goal.returns
returns c = fresh_made _ _ _ _ _ _ (sym c.in_ok-of_fresh.ensures) c.of.ensures (c.fill.ensures.after (λ y e. e)) (c.fill-2.ensures.after (λ y e. e))
