-- `playback::replay_to` meets its contract. Assumes nothing.
use Rattle.std.specs.Prelude.{List, ℕ, OnOk}
use Rattle.std.specs.Io.KnownBytes.{Appends}
use Rattle.std.proofs.Common.{◌∙◌, subst}
use Rattle.playback.proofs.Texts.{run_text, refusal_text}
use Rattle.playback.proofs.replay_to.Goals as goal

pub returns-in-Ok-clause-text : goal.returns-in-Ok-clause-text
returns-in-Ok-clause-text g c =
    let held = g.W.Write.contents in
    subst (λ (t : List ℕ). OnOk c.run.result (Appends (held c.args.out.now) (held c.run.new.out) t)) (run_text c.args.log.now _ _ c.in-Ok.ensures) c.run.ensures

pub returns-in-Err-clause-text : goal.returns-in-Err-clause-text
returns-in-Err-clause-text g c =
    let text = c.refusal_line.ensures ∙ refusal_text c.args.log.now c.in-Err.fault _ c.in-Err.ensures c.from.ensures in
    let held = g.W.Write.contents in
    subst (λ (t : List ℕ). OnOk c.print.result (Appends (held c.args.out.now) (held c.print.new.out) t)) text c.print.ensures
