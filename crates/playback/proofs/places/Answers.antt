-- `playback::places` meets its contract. Assumes nothing.
use Rattle.std.proofs.Common.{sym, ◌∙◌, arith}
use native.Mathlib.Nat.{mul-le-mul}
use Rattle.card.specs.Limits.{sizes_are}
use Rattle.playback.specs.Room.{places_of}
use Rattle.playback.proofs.places.Goals as goal

pub returns-then-not-fits : goal.returns-then-not-fits
unfolding places_of
returns-then-not-fits c = rw (sym c.fits.ensures ∙ c.if-not-fits.true)

pub overflow_mul-result : goal.overflow_mul-result
overflow_mul-result c = let z = sizes_are _ _ _ (sym c.fits.ensures ∙ c.if-not-fits.false) in omega (arith, mul-le-mul z.ports.ins.high z.ports.outs.high)

pub overflow_mul-result-2 : goal.overflow_mul-result-2
overflow_mul-result-2 c = let z = sizes_are _ _ _ (sym c.fits.ensures ∙ c.if-not-fits.false) in omega (arith, mul-le-mul (mul-le-mul z.ports.ins.high z.ports.outs.high) z.deep.high)

pub returns : goal.returns
unfolding places_of
returns c = rw (sym c.fits.ensures ∙ c.if-not-fits.false)
