-- Two answers that meet one promise are equal: the functions that promise an answer of document 01. Assumes nothing. Two promises of one call are equations
-- with one right side, so together they are `answer_of r ≡ answer_of s`; a lent list that a call may change stands in its promise, and is equal too.
-- The functions that neither this file nor `Bits` names promise `r ≡ ..` itself: `masks::has` and `count`, those of `card`, `Queue::stands`, `fits`,
-- `wait`, `Record::empty`, `of`, `well_formed`, `waiting`; or the number of an answer without a value, which is `card`'s `verdict_unique`: `playback::replay`.
use Rattle.std.specs.Prelude.{◌≡◌, refl, Option, Some, None, IsSome, IsTrue, ◌&&◌, nat_lt, ◌↔◌, Result, Ok, Err, List, ℕ, ◌-◌, ◌<◌, length, replicate}
use Rattle.std.proofs.Common.{sym, ap, ap₂, ◌∙◌, arith, length-append}
use Rattle.std.proofs.lemmas.List.{length-replicate, get_or-replicate}
use Rattle.masks.specs.Tests.{clash}
use Rattle.card.specs.declared.Refusal.{Refusal}
use Rattle.card.specs.declared.Out.{Out}
use Rattle.card.specs.declared.Counters.{Counters}
use Rattle.card.specs.Paper.{refusal_number, number_of}
use Rattle.card.specs.Limits.{refusal_unique, refused, answers_alike, verdict_unique}
use Rattle.matches.specs.Paper as matches
use Rattle.matches.specs.Paper.{at}
use Rattle.search.specs.declared.choice.Found.{Found}
use Rattle.search.specs.First.{numbers_unique, FirstOf}
use Rattle.matching.specs.declared.Match.{Match}
use Rattle.matching.specs.declared.RankForm.{RankForm}
use Rattle.matching.specs.Answers.{match_beside, match_of, answer_of, form_beside, form_of}
use Rattle.queue.specs.declared.Queue.{Queue}
use Rattle.queue.specs.declared.Sent.{Sent}
use Rattle.queue.specs.Paper.{Ring, ring_of, standing, Sending, sent_of, send}
use Rattle.slot.specs.declared.Record.{Record}
use Rattle.slot.specs.declared.Report.{Report}
use Rattle.slot.specs.declared.Stepped.{Stepped}
use Rattle.slot.specs.Paper as slots
use Rattle.slot.specs.Answers.{made_of, report_of, reported, stepped_of}
use Rattle.slotlog.specs.declared.Checked.{Checked}
use Rattle.slotlog.specs.declared.Fault.{Fault}
use Rattle.slotlog.specs.declared.Slot.{Slot}
use Rattle.slotlog.specs.Paper as logs
use Rattle.slotlog.specs.Answers.{checked_of, read_of, written_of}
use Rattle.lines.specs.declared.Line.{Line}
use Rattle.lines.specs.Paper.{slot_line, last_line, refusal_line}
use Rattle.lines.specs.Text.{room, text_of}
use Rattle.crosspoint.specs.Paper.{Outcome}
use Rattle.crosspoint.specs.Outcomes.{after, checked_number, written_number}
use Rattle.unique.proofs.Numbers.{small}
use Rattle.unique.proofs.Text.{Whole, SameText, text_unique}

-- ---- answers or refusals

-- two that are said by one value, in which their number stands
alike : {T S : Type 0} (f g : Result T Refusal → S) (number : S → ℕ) → ((r : Result T Refusal) → number (f r) ≡ number_of r) → ((r : Result T Refusal) → number (g r) ≡ number_of r)
    → ((x y : T) → f (Ok x) ≡ g (Ok y) → x ≡ y) → (r s : Result T Refusal) → f r ≡ g s → r ≡ s
alike f g number nf ng same r s e =
    answers_alike (λ a b. f a ≡ g b → a ≡ b) (λ x y q. ap Ok (same x y q)) (λ v q. refl) r s (sym (nf r) ∙ ap number e ∙ ng s) e

-- ---- search and matching

-- `search::first`
pub first_unique : (rows inputs outputs : List ℕ) (r s : Found) → FirstOf rows inputs outputs r → FirstOf rows inputs outputs s → r ≡ s
first_unique rows inputs outputs r s a b =
    ap₂ (λ (p : List Out) (w : ℕ). record { partners = p; weight = w }) (numbers_unique _ _ (a.partners ∙ sym b.partners)) (a.weighs ∙ sym b.weighs)

-- `Match::of`: a match beside any refusal's number
pub beside_unique : (number : ℕ) (r s : Match) → match_beside number r ≡ match_beside number s → r ≡ s
beside_unique number r s e =
    ap₂ (λ (p : List Out) (a : matches.Answer). record { partners = p; size = a.pairs; weight = a.weighs })
    (numbers_unique _ _ (ap (λ (a : matches.Answer). a.partners) e)) e

-- `Match::none`
pub match_unique : (r s : Match) → match_of r ≡ match_of s → r ≡ s
match_unique = beside_unique 0

-- `RankForm::of`, and `RankForm::none`
pub ranks_unique : (number : ℕ) (r s : RankForm) → form_beside number r ≡ form_beside number s → r ≡ s
ranks_unique number r s e = ap (λ (f : matches.RankForm). record { rows = f.rows; inputs = f.inputs; outputs = f.outputs }) e

-- `matching::weighted_match`, `table_match`
pub answer_unique : (r s : Result Match Refusal) → answer_of r ≡ answer_of s → r ≡ s
answer_unique = alike answer_of answer_of (λ (a : matches.Answer). a.refusal) number number match_unique
  where
    number : (r : Result Match Refusal) → (answer_of r).refusal ≡ number_of r
    number (Ok r) = refl
    number (Err v) = refl

-- `matching::rank_form`
pub form_unique : (r s : Result RankForm Refusal) → form_of r ≡ form_of s → r ≡ s
form_unique = alike form_of form_of (λ (f : matches.RankForm). f.refusal) number number (ranks_unique 0)
  where
    number : (r : Result RankForm Refusal) → (form_of r).refusal ≡ number_of r
    number (Ok r) = refl
    number (Err v) = refl

-- ---- the queue, with its stretch of both lists as they are afterwards

-- `Queue::store`
pub ring_unique : (r s : Queue) (cells stamps cells' stamps' : List ℕ) → ring_of r cells stamps ≡ ring_of s cells' stamps'
    → (r ≡ s) × (cells ≡ cells') × (stamps ≡ stamps')
ring_unique r s cells stamps cells' stamps' e =
    (ap (λ (q : Ring). record { head = q.head; count = q.count }) e, ap (λ (q : Ring). q.cells) e, ap (λ (q : Ring). q.stamps) e)

-- what is told of a cell that may have been sent
abbrev cell_of : Option Sent → ℕ
cell_of None = 0
cell_of (Some x) = x.cell

abbrev wait_for : Option Sent → ℕ
wait_for None = 0
wait_for (Some x) = x.wait

one_sent : (r s : Option Sent) → (IsSome r → IsSome s) → (IsSome s → IsSome r) → cell_of r ≡ cell_of s → wait_for r ≡ wait_for s → r ≡ s
one_sent (Some x) (Some y) f g c w = ap₂ (λ (a b : ℕ). Some (record { cell = a; wait = b })) c w
one_sent None None f g c w = refl
one_sent (Some x) None f g c w = absurd (clash (f refl) refl)
one_sent None (Some y) f g c w = absurd (clash (g refl) refl)

module _ (r : Option Sent) (q : Queue) (cells stamps : List ℕ) where
  ring_told : (sent_of r q cells stamps).ring ≡ ring_of q cells stamps
  ring_told = go r
    where
      go : (x : Option Sent) → (sent_of x q cells stamps).ring ≡ ring_of q cells stamps
      go None = refl
      go (Some x) = refl

  cell_told : (sent_of r q cells stamps).cell ≡ cell_of r
  cell_told = go r
    where
      go : (x : Option Sent) → (sent_of x q cells stamps).cell ≡ cell_of x
      go None = refl
      go (Some x) = refl

  wait_told : (sent_of r q cells stamps).wait ≡ wait_for r
  wait_told = go r
    where
      go : (x : Option Sent) → (sent_of x q cells stamps).wait ≡ wait_for x
      go None = refl
      go (Some x) = refl

-- `Queue::send`: whether a cell goes is promised too
pub sent_unique : (r s : Option Sent) (q p : Queue) (cells stamps cells' stamps' : List ℕ) (goes : Type 0) → (IsSome r ↔ goes) → (IsSome s ↔ goes)
    → sent_of r q cells stamps ≡ sent_of s p cells' stamps'
    → (r ≡ s) × (q ≡ p) × (cells ≡ cells') × (stamps ≡ stamps')
sent_unique r s q p cells stamps cells' stamps' goes f g e =
    let ring = ring_unique q p cells stamps cells' stamps' (sym (ring_told r q cells stamps) ∙ ap (λ (z : Sending). z.ring) e ∙ ring_told s p cells' stamps') in
    let cell = sym (cell_told r q cells stamps) ∙ ap (λ (z : Sending). z.cell) e ∙ cell_told s p cells' stamps' in
    let wait = sym (wait_told r q cells stamps) ∙ ap (λ (z : Sending). z.wait) e ∙ wait_told s p cells' stamps' in
    (one_sent r s (λ h. g.1 (f.0 h)) (λ h. f.1 (g.0 h)) cell wait, ring.0, ring.1, ring.2)

-- so two answers of `Queue::send` that meet its promise, whatever was given, are equal
pub send_unique : (slot : ℕ) (given : Queue) (cells stamps : List ℕ) (r s : Option Sent) (q p : Queue) (cells' stamps' cells'' stamps'' : List ℕ)
    → (IsSome r ↔ IsTrue (standing (ring_of given cells stamps) && nat_lt 0 given.count)) → sent_of r q cells' stamps' ≡ send slot (ring_of given cells stamps)
    → (IsSome s ↔ IsTrue (standing (ring_of given cells stamps) && nat_lt 0 given.count)) → sent_of s p cells'' stamps'' ≡ send slot (ring_of given cells stamps)
    → (r ≡ s) × (q ≡ p) × (cells' ≡ cells'') × (stamps' ≡ stamps'')
send_unique slot given cells stamps r s q p cells' stamps' cells'' stamps'' f d g e =
    let same = d ∙ sym e in
    let ring = ring_unique q p cells' stamps' cells'' stamps'' (sym (ring_told r q cells' stamps') ∙ ap (λ (z : Sending). z.ring) same ∙ ring_told s p cells'' stamps'') in
    let cell = sym (cell_told r q cells' stamps') ∙ ap (λ (z : Sending). z.cell) same ∙ cell_told s p cells'' stamps'' in
    let wait = sym (wait_told r q cells' stamps') ∙ ap (λ (z : Sending). z.wait) same ∙ wait_told s p cells'' stamps'' in
    (one_sent r s (λ h. g.1 (f.0 h)) (λ h. f.1 (g.0 h)) cell wait, ring.0, ring.1, ring.2)

-- ---- the card, with both lists as they are afterwards

-- `Record::fresh`
pub made_unique : (r s : Result Record Refusal) (cells stamps cells' stamps' : List ℕ) → made_of r cells stamps ≡ made_of s cells' stamps'
    → (r ≡ s) × (cells ≡ cells') × (stamps ≡ stamps')
made_unique r s cells stamps cells' stamps' e = (
  alike (λ a. made_of a cells stamps) (λ a. made_of a cells' stamps') (λ (m : slots.Made). m.refusal) (number cells stamps) (number cells' stamps')
      (λ x y q. ap (λ (m : slots.Made). m.state.kept) q) r s e,
  sym (kept r cells stamps).0 ∙ ap (λ (m : slots.Made). m.state.cells) e ∙ (kept s cells' stamps').0,
  sym (kept r cells stamps).1 ∙ ap (λ (m : slots.Made). m.state.stamps) e ∙ (kept s cells' stamps').1,
)
  where
    number : (cells stamps : List ℕ) (r : Result Record Refusal) → (made_of r cells stamps).refusal ≡ number_of r
    number cells stamps (Ok r) = refl
    number cells stamps (Err v) = refl

    kept : (r : Result Record Refusal) (cells stamps : List ℕ) → ((made_of r cells stamps).state.cells ≡ cells) × ((made_of r cells stamps).state.stamps ≡ stamps)
    kept (Ok r) cells stamps = (refl, refl)
    kept (Err v) cells stamps = (refl, refl)

-- `Report::none`
pub report_unique : (r s : Report) → report_of r ≡ report_of s → r ≡ s
report_unique r s e =
    ap₂ (λ (p : List Out) (x : slots.Report). record { partners = p; cells = x.cells; waits = x.waits; size = x.pairs; weight = x.weighs; dropped = x.dropped })
    (numbers_unique _ _ (ap (λ (x : slots.Report). x.partners) e)) e

-- `Record::slot`
pub stepped_unique : (r s : Stepped) (cells stamps cells' stamps' : List ℕ) → stepped_of r cells stamps ≡ stepped_of s cells' stamps'
    → (r ≡ s) × (cells ≡ cells') × (stamps ≡ stamps')
stepped_unique r s cells stamps cells' stamps' e = (
  ap₂ (λ (o : Result Report Refusal) (x : slots.Stepped). record { «record» = x.state.kept; outcome = o })
      (alike said said (λ x. x.0) (λ o. refl) (λ o. refl) (λ x y q. report_unique x y (ap (λ z. z.1) q)) r.outcome s.outcome (ap (λ (x : slots.Stepped). (x.refusal, x.report)) e))
      e,
  ap (λ (x : slots.Stepped). x.state.cells) e,
  ap (λ (x : slots.Stepped). x.state.stamps) e,
)
  where
    said : Result Report Refusal → ℕ × slots.Report
    said o = (number_of o, reported o)

-- ---- the slot log

fault_unique : (f g : Fault) → refusal_number f.refusal ≡ refusal_number g.refusal → f.«record» ≡ g.«record» → f ≡ g
fault_unique f g e h = ap₂ (λ (v : Refusal) (n : ℕ). record { refusal = v; «record» = n }) (refusal_unique _ _ e) h

-- `slotlog::check`
pub checked_unique : (r s : Result Checked Fault) → checked_of r ≡ checked_of s → r ≡ s
checked_unique (Ok r) (Ok s) e = ap (λ (c : logs.Checked). Ok (record { card = record { m = c.m; n = c.n; d = c.d }; count = c.count; first = c.first })) e
checked_unique (Ok r) (Err g) e = absurd (refused g.refusal (sym (ap (λ (c : logs.Checked). c.fault.refusal) e)))
checked_unique (Err f) (Ok s) e = absurd (refused f.refusal (ap (λ (c : logs.Checked). c.fault.refusal) e))
checked_unique (Err f) (Err g) e = ap Err (fault_unique f g (ap (λ (c : logs.Checked). c.fault.refusal) e) (ap (λ (c : logs.Checked). c.fault.record_number) e))

-- `slotlog::read`
pub read_unique : (r s : Result Slot Refusal) → read_of r ≡ read_of s → r ≡ s
read_unique = alike read_of read_of (λ (x : logs.Read). x.refusal) number number (λ r s e. ap (λ (x : logs.Read). record { hold = x.slot.hold; arrivals = x.slot.arrivals }) e)
  where
    number : (r : Result Slot Refusal) → (read_of r).refusal ≡ number_of r
    number (Ok r) = refl
    number (Err v) = refl

-- `slotlog::write`, with the buffer as it is afterwards
pub written_unique : (r s : Result ℕ Refusal) (buffer buffer' : List ℕ) → written_of r buffer ≡ written_of s buffer' → (r ≡ s) × (buffer ≡ buffer')
written_unique r s buffer buffer' e = (
  alike (λ a. written_of a buffer) (λ a. written_of a buffer') (λ (w : logs.Written). w.refusal) (number buffer) (number buffer') (λ x y q. ap (λ (w : logs.Written). w.length_written) q) r s e,
  sym (kept r buffer) ∙ ap (λ (w : logs.Written). w.buffer) e ∙ kept s buffer',
)
  where
    number : (buffer : List ℕ) (r : Result ℕ Refusal) → (written_of r buffer).refusal ≡ number_of r
    number buffer (Ok n) = refl
    number buffer (Err v) = refl

    kept : (r : Result ℕ Refusal) (buffer : List ℕ) → (written_of r buffer).buffer ≡ buffer
    kept (Ok n) buffer = refl
    kept (Err v) buffer = refl

-- ---- the C interface

-- all eight functions of `crosspoint_c`: A is the lists that the function may change, taken together
pub after_unique : {A : Type 0} (r s : ℕ) (lists lists' : A) → after r lists ≡ after s lists' → (r ≡ s) × (lists ≡ lists')
after_unique {A} r s lists lists' e = (ap (λ (o : Outcome A). o.answer) e, ap (λ (o : Outcome A). o.lists) e)

-- six of those of `crosspoint`, which answer by a refusal
pub outcome_unique : {A : Type 0} (r s : Result (Unit {0}) Refusal) (lists lists' : A) → after (number_of r) lists ≡ after (number_of s) lists' → (r ≡ s) × (lists ≡ lists')
outcome_unique r s lists lists' e = let h = after_unique _ _ lists lists' e in (verdict_unique r s h.0, h.1)

-- its check, which answers by a fault, and its writer: both halves of the number are said, since a refusal's number has less than 32 bits
pub check_unique : {A : Type 0} (r s : Result (Unit {0}) Fault) (lists lists' : A) → after (checked_number r) lists ≡ after (checked_number s) lists' → (r ≡ s) × (lists ≡ lists')
check_unique r s lists lists' e = let h = after_unique _ _ lists lists' e in (number r s h.0, h.1)
  where
    number : (r s : Result (Unit {0}) Fault) → checked_number r ≡ checked_number s → r ≡ s
    number (Ok x) (Ok y) q = refl
    number (Ok x) (Err g) q = absurd (refused g.refusal (omega (arith, q, small g.refusal)))
    number (Err f) (Ok y) q = absurd (refused f.refusal (omega (arith, q, small f.refusal)))
    number (Err f) (Err g) q = ap Err (fault_unique f g (omega (arith, q, small f.refusal, small g.refusal)) (omega (arith, q, small f.refusal, small g.refusal)))

pub write_unique : {A : Type 0} (r s : Result ℕ Refusal) (lists lists' : A) → after (written_number r) lists ≡ after (written_number s) lists' → (r ≡ s) × (lists ≡ lists')
write_unique r s lists lists' e = let h = after_unique _ _ lists lists' e in (number r s h.0, h.1)
  where
    number : (r s : Result ℕ Refusal) → written_number r ≡ written_number s → r ≡ s
    number (Ok x) (Ok y) q = ap Ok (omega (arith, q))
    number (Ok x) (Err g) q = absurd (refused g (omega (arith, q, small g)))
    number (Err f) (Ok y) q = absurd (refused f (omega (arith, q, small f)))
    number (Err f) (Err g) q = ap Err (refusal_unique f g (omega (arith, q, small f, small g)))

-- ---- the exception: a line. Its text is promised, so two answers have one length and the same bytes before their end; what stands behind is left open

-- `lines::slot_line`
pub slot_line_unique : (slot : ℕ) (report : slots.Report) (r s : Line) → Whole r → Whole s → text_of r ≡ slot_line slot report → text_of s ≡ slot_line slot report
    → SameText r s
slot_line_unique slot report r s wr ws a b = text_unique r s wr ws (a ∙ sym b)

-- `lines::last_line`
pub last_line_unique : (c : Counters) (waiting : ℕ) (r s : Line) → Whole r → Whole s → text_of r ≡ last_line c waiting → text_of s ≡ last_line c waiting
    → SameText r s
last_line_unique c waiting r s wr ws a b = text_unique r s wr ws (a ∙ sym b)

-- `lines::refusal_line`
pub refusal_line_unique : (refusal number : ℕ) (r s : Line) → Whole r → Whole s → text_of r ≡ refusal_line refusal number → text_of s ≡ refusal_line refusal number
    → SameText r s
refusal_line_unique refusal number r s wr ws a b = text_unique r s wr ws (a ∙ sym b)

-- and no more: whatever the text, two lines that differ have it
module _ (text : List ℕ) (h : length text < room) where
  abbrev padded : ℕ → Line
  padded x = record { text = record { bytes = text; spare = replicate (room - length text) x } }

  whole : (x : ℕ) → Whole (padded x)
  whole x = omega (arith, h, length-append text (replicate (room - length text) x), length-replicate (room - length text) x)

  behind : (x : ℕ) → at (padded x).text.spare 0 ≡ x
  behind x = get_or-replicate (room - length text) 0 x 0 (omega (arith, h))

  pub line_open : ((r s : Line) → Whole r → Whole s → text_of r ≡ text → text_of s ≡ text → r ≡ s) → ⊥
  line_open one =
      let e = one (padded 0) (padded 1) (whole 0) (whole 1) refl refl in
      absurd (omega (arith, sym (behind 0) ∙ ap (λ (l : Line). at l.text.spare 0) e ∙ behind 1))
