-- An accepted slot: its four steps put together. Assumes nothing.
use Rattle.std.specs.Prelude.{◌≡◌, ℕ, ◌*◌, ◌≤◌, Result, Ok, Err, IsOk, List, length, take}
use Rattle.std.proofs.Common.{sym, ap, le_refl, mul-le-mul, rules}
use Rattle.std.proofs.Math.Path.{subst}
use Rattle.card.specs.declared.Arrivals.{Arrivals}
use Rattle.card.specs.Paper.{next}
use Rattle.matches.specs.Paper.{table_refusal, table_match, answer}
use Rattle.matches.proofs.Accepted.{table_ok}
use Rattle.card.specs.declared.Refusal.{Refusal}
use Rattle.card.specs.Limits.{refused}
use Rattle.matches.specs.Paper as paper
use Rattle.search.specs.First.{numbers}
use Rattle.matching.specs.declared.Match.{Match}
use Rattle.matching.specs.Answers.{answer_of}
use Rattle.slot.specs.declared.Record.{Record}
use Rattle.slot.specs.declared.Report.{Report}
use Rattle.slot.specs.Paper.{State, Stepped, queues, take_all, match_of, send_all, begun, unsent, accepted}
use Rattle.slot.specs.Answers.{state_of, taking_of, leaving_of, accepted_of}
use Rattle.slot.proofs.Refused.{refusal_of, taken}
use Rattle.slot.specs.Ready.{Ready, ready}
use Rattle.slot.specs.Arriving as arriving
use Rattle.slot.specs.Sending.{Partners}
use Rattle.slot.specs.Matched.{table_taken, are_partners}
use Rattle.slot.specs.Accepted.{Fit}

pub fit : (s : State) (hold : ℕ) (a : Arrivals) → length s.kept.heads ≡ queues → length s.kept.counts ≡ queues → refusal_of s hold a ≡ 0 → Fit s hold a
fit s hold a hl cl e =
    let t = taken s.kept (length s.cells) (length s.stamps) hold a e in
    record { ready = ready s t.formed hl cl t.cells_long t.stamps_long; hold_fits = t.hold_fits; fit_arrivals = t.fit_arrivals }

-- a table that is not refused is a card's, and has a match
pub table_used : (M N : ℕ) (counts : List ℕ) (hold : ℕ) → table_refusal M N counts hold ≡ 0 → M * N ≤ queues
table_used M N counts hold e = let z = (table_ok M N counts hold e).sizes in mul-le-mul z.ins.high z.outs.high

pub table_found : (M N : ℕ) (counts : List ℕ) (hold : ℕ) (found : Result Match Refusal)
    → answer_of found ≡ table_match M N counts hold → table_refusal M N counts hold ≡ 0 → IsOk found
unfolding table_match answer
table_found M N counts hold (Ok m) h e = search rules
table_found M N counts hold (Err r) h e = absurd (refused r (ap (λ (x : paper.Answer). x.refusal) (rw e at h)))

-- after the arrivals
pub arrived_along : (s : State) (hold : ℕ) (a : Arrivals) → Fit s hold a → arriving.Along s s.kept.card.m (take_all a s.kept.card.m (begun s))
arrived_along s hold a f = arriving.all_keeps s f.ready a f.fit_arrivals s.kept.card.m (le_refl _)

-- r: the record after the arrivals
module _ (s : State) (hold : ℕ) (a : Arrivals) (f : Fit s hold a) (r : Record) (dropped : ℕ) (cells stamps : List ℕ)
    (h : taking_of r dropped cells stamps ≡ take_all a s.kept.card.m (begun s)) where
  mid : arriving.Along s s.kept.card.m (taking_of r dropped cells stamps)
  mid = subst (arriving.Along s s.kept.card.m) (sym h) (arrived_along s hold a f)

  pub mid_ready : Ready (state_of r cells stamps)
  mid_ready = mid.ready

  pub mid_taken : table_refusal r.card.m r.card.n (take (r.card.m * r.card.n) r.counts) hold ≡ 0
  mid_taken = table_taken (state_of r cells stamps) mid_ready hold (rw mid.card f.hold_fits)

  pub mid_partners : (found : Match) → answer_of (Ok found) ≡ match_of r hold → Partners r.card r.counts (numbers found.partners)
  mid_partners found e =
      subst (Partners r.card r.counts) (sym (ap (λ (x : paper.Answer). x.partners) e)) (are_partners (state_of r cells stamps) mid_ready hold (rw mid.card f.hold_fits))

  -- the four steps
  pub together : (found : Match) → answer_of (Ok found) ≡ match_of r hold
      → (after : Record) (sent : Report) (cells' stamps' : List ℕ) → sent.partners ≡ found.partners
      → leaving_of after sent cells' stamps' ≡ send_all (numbers found.partners) r.card.m (unsent (state_of r cells stamps))
      → ◌≡◌ {A = Stepped} (accepted_of (record after { slot = next after.slot }) (record sent { size = found.size; weight = found.weight; dropped = dropped }) cells' stamps')
      (accepted s hold a)
  unfolding accepted
  together found e after sent cells' stamps' p l = rw (← h, ← e, ← l, p)
