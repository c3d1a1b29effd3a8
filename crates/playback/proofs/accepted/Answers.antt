-- `playback::accepted` meets its contract. Assumes nothing.
use Rattle.std.proofs.Common.{sym, subst}
use Rattle.playback.specs.Outcome.{Stops}
use Rattle.playback.proofs.Outcomes.{room_stops, both_run}
use Rattle.playback.proofs.accepted.Goals as goal

pub returns-then-larger : goal.returns-then-larger
returns-then-larger c =
    subst (Stops c.args.log.now) (sym c.from.ensures) (room_stops c.args.log.now _ c.in_ok-checked.ensures _ c.places-places.ensures c.if-larger.true)

pub returns : goal.returns
returns c = both_run c.args.log.now _ c.in_ok-checked.ensures _ c.places-places.ensures c.if-larger.false
