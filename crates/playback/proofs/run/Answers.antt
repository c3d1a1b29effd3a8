-- `playback::run` meets its contract. Assumes nothing.
use Rattle.std.proofs.Common.{ℕ, replicate, ap, sym, ◌∙◌}
use Rattle.std.proofs.lemmas.List.{take-replicate}
use Rattle.std.proofs.KnownBytes.{Appends-nil}
use Rattle.playback.specs.Printed.{Played, played}
use Rattle.playback.proofs.Played.{one_more, both_written, fresh_state}
use Rattle.playback.proofs.run.Goals as goal

pub loop-k-init : goal.loop-k-init
unfolding played
loop-k-init g c =
    let zeros = take-replicate {X = ℕ} c.args.places 2048 0 c.requires.fits ∙ ap (λ (n : ℕ). replicate n 0) c.requires.whole in
    record { state = rw (c.unwrap_or-record.ensures) (fresh_state _ _ _ _ _ (rw zeros at c.fresh.ensures) c.empty.ensures); text = Appends-nil _ }

pub loop-k-preserved : goal.loop-k-preserved
loop-k-preserved g c =
    let at = c.loop-k in
    let next = sym (one_more c.args.log.now _ _ at.k at.invariant.state) in
    record {
      state = c.step-line.ensures.state ∙ ap (λ (p : Played). p.state) next;
      text = both_written _ _ _ _ _ _ _ _ _ c.and-written.ensures (sym (ap (λ (p : Played). p.text) next)) at.invariant.text (rw c.step-line.ensures.line at c.print.ensures);
    }
