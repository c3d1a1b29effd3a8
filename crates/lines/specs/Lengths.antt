-- How long a line can be: at most 1,454 bytes, so a line's text says how long it is. Assumes nothing.
use Rattle.std.specs.Prelude.{◌≡◌, Bool, true, false, cond, List, [], ℕ, zero, suc, ◌*◌, ◌/◌, ◌≤◌, length, ltb, eqb}
use Rattle.std.proofs.Common.{ap, arith, length-append}
use Rattle.card.specs.declared.Counters.{Counters}
use Rattle.card.specs.Paper.{ports, none}
use Rattle.matches.specs.Paper.{at, partner}
use Rattle.slot.specs.Paper.{Report}
use Rattle.lines.specs.declared.Line.{Line}
use Rattle.lines.specs.Paper.{digits, sending, sendings, slot_line, last_line, refusal_line}
use Rattle.lines.specs.Parts.{sent}
use Rattle.lines.specs.Text.{text_of, len_of}

-- of two lists each is short enough
either : (b : Bool) (s t : List ℕ) (most : ℕ) → length s ≤ most → length t ≤ most → length (cond b s t) ≤ most
either true s t most h k = h
either false s t most h k = k

digits_most : (most x : ℕ) → length (digits most x) ≤ most
unfolding digits
digits_most zero x = omega arith
digits_most (suc most) x = either (ltb x 10) _ _ (suc most) (omega arith) (simp length-append (omega (arith, digits_most most (x / 10))))

sending_most : (input output cell wait : ℕ) → length (sending input output cell wait) ≤ 44
unfolding sending
sending_most input output cell wait = simp length-append (omega (arith, digits_most 10 input, digits_most 10 output, digits_most 10 cell, digits_most 10 wait))

sent_most : (input output cell wait : ℕ) → length (sent input output cell wait) ≤ 44
sent_most input output cell wait =
    either (eqb output none) [] (sending input output cell wait) 44 (omega arith) (sending_most input output cell wait)

sendings_most : (k : ℕ) (r : Report) → length (sendings k r) ≤ 44 * k
unfolding sendings
sendings_most zero r = omega arith
sendings_most (suc k) r =
    simp length-append (omega (arith, sendings_most k r, sent_most k (partner r.partners k) (at r.cells k) (at r.waits k)))

pub slot_most : (slot : ℕ) (r : Report) → length (slot_line slot r) ≤ 1454
unfolding slot_line
slot_most slot r = simp length-append (omega (arith, digits_most 10 slot, digits_most 10 r.pairs, digits_most 10 r.weighs, digits_most 10 r.dropped, sendings_most ports r))

pub last_most : (c : Counters) (waiting : ℕ) → length (last_line c waiting) ≤ 57
unfolding last_line
last_most c waiting = simp length-append (omega (arith, digits_most 10 c.offered, digits_most 10 c.stored, digits_most 10 c.dropped, digits_most 10 c.departed, digits_most 10 waiting))

pub refusal_most : (refusal number : ℕ) → length (refusal_line refusal number) ≤ 24
unfolding refusal_line
refusal_most refusal number = simp length-append (omega (arith, digits_most 10 refusal, digits_most 10 number))

-- a line has as many bytes as its text
pub len_is : (l : Line) (text : List ℕ) → text_of l ≡ text → len_of l ≡ length text
len_is l text e = ap length e
