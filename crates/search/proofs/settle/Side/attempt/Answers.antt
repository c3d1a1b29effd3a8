-- `search::settle::Side::attempt` meets its contract. Assumes nothing.
use Rattle.std.proofs.Common.{arith, refl}
use Rattle.search.specs.Settle.{queue_of, ready_at, tried_found, giving_at, tried_exchange, tried_none}
use Rattle.search.specs.Augment.{ready_any}
use Rattle.search.specs.Exchange.{giving_any}
use Rattle.search.proofs.settle.Side.attempt.Goals as goal

pub augment-requires : goal.augment-requires
augment-requires c = ready_any _ _ _ _ _ _ (ready_at _ c.args.self.now.weights _ _ c.requires.paired c.requires.unmatched.0 c.requires.unmatched.1 _ c.reach-s.ensures _ c.in-Some.is)

pub returns-in-Some : goal.returns-in-Some
returns-in-Some c = tried_found _ c.args.self.now.weights _ _ c.requires.paired c.requires.unmatched.0 c.requires.unmatched.1 _ c.reach-s.ensures _ _ (c.augment.ensures _ (ready_at _ c.args.self.now.weights _ _ c.requires.paired c.requires.unmatched.0 c.requires.unmatched.1 _ c.reach-s.ensures _ c.in-Some.is))

pub lightest-h-requires : goal.lightest-h-requires
lightest-h-requires c = queue_of _ c.args.self.now.weights _ _ c.requires.paired c.requires.unmatched.0 c.requires.unmatched.1 _ c.reach-s.ensures

pub queued-x-requires : goal.queued-x-requires
queued-x-requires c = omega (arith, (queue_of _ c.args.self.now.weights _ _ c.requires.paired c.requires.unmatched.0 c.requires.unmatched.1 _ c.reach-s.ensures).room, c.lightest-h.ensures.inside)

pub exchange-requires : goal.exchange-requires
exchange-requires c = giving_any _ _ _ _ _ (giving_at _ c.args.self.now.weights _ _ c.requires.paired c.requires.unmatched.0 c.requires.unmatched.1 _ c.reach-s.ensures (c.in_default.is) _ c.lightest-h.ensures _ _ _ c.queued-x.ensures refl refl (c.less.ensures.0 c.if-less.true))

pub returns-then-less : goal.returns-then-less
returns-then-less c = tried_exchange _ c.args.self.now.weights _ _ c.requires.paired c.requires.unmatched.0 c.requires.unmatched.1 _ c.reach-s.ensures (c.in_default.is) _ c.lightest-h.ensures _ _ _ c.queued-x.ensures refl refl (c.less.ensures.0 c.if-less.true) _
    (c.exchange.ensures _ (giving_at _ c.args.self.now.weights _ _ c.requires.paired c.requires.unmatched.0 c.requires.unmatched.1 _ c.reach-s.ensures (c.in_default.is) _ c.lightest-h.ensures _ _ _ c.queued-x.ensures refl refl (c.less.ensures.0 c.if-less.true)))

pub returns-else-less : goal.returns-else-less
returns-else-less c = tried_none _ c.args.self.now.weights _ _ c.requires.paired c.requires.unmatched.0 c.requires.unmatched.1 _ c.reach-s.ensures (c.in_default.is) _ c.lightest-h.ensures _ _ _ c.queued-x.ensures refl refl (c.less.ensures.1 c.if-less.false)
