-- What an accepted slot sends: at most one cell per input and per output, each from a queue that requested it, over a heaviest match. Assumes nothing.
use Rattle.std.specs.Prelude.{◌≡◌, ◌⊎◌, true, false, not, List, ℕ, ◌<◌, length, ltb, eqb}
use Rattle.std.proofs.Math.Path.{refl}
use Rattle.std.proofs.Common.{◌∙◌, inl, inr, arith}
use borrow.Author.Tests.{lt-ltb, le-ltb, eq-eqb, ne_eqb, not-true}
use Rattle.masks.specs.Paper.{has, keep, sum}
use Rattle.masks.specs.Tests.{and_both}
use Rattle.masks.specs.Sum.{sum_cong}
use Rattle.card.specs.declared.Card.{Card}
use Rattle.card.specs.Paper.{ports, none, names_below, index}
use Rattle.matches.specs.Paper.{at, partner, Best, IsMatch, size_of, weight_of, count, wants, table_rows, table_in, table_out}
use Rattle.matches.proofs.Lists.{partner_in}
use Rattle.matches.proofs.Table.{wants_at}
use Rattle.slot.specs.Paper.{State, Stepped, fresh_refusal, match_of, accepted}
use Rattle.slot.specs.Ready.{Ready}
use Rattle.slot.specs.Stretch.{index_in}
use Rattle.slot.specs.Matched.{table, table_at, match_is, best_of, asked_of}
use Rattle.runs.specs.Paper.{Call, start, answer, after, departed_in}
use Rattle.runs.proofs.Kept.{agreed, by_way, reached, partners_of, Way, after_keeps}
use Rattle.runs.proofs.Start.{is_new}

-- ---- "Requests and totals are taken after the arrivals": t is the card then

abbrev pub rows_of : State → (hold : ℕ) → List ℕ
rows_of t hold = table_rows t.kept.card.m t.kept.card.n (table t) hold

abbrev pub ins_of : State → List ℕ
ins_of t = table_in t.kept.card.m t.kept.card.n (table t)

abbrev pub outs_of : State → List ℕ
outs_of t = table_out t.kept.card.m t.kept.card.n (table t)

-- "Input i requests output j when its queue is not empty and j is not held"
pub record Request (t : State) (hold i j : ℕ) : Type 0 where
  pub input : i < t.kept.card.m
  pub output : j < t.kept.card.n
  pub waits : 0 < at t.kept.counts (index t.kept.card i j)
  pub free : has hold j ≡ false

wants_free : (M N : ℕ) (counts : List ℕ) (hold i j : ℕ) → wants M N counts hold i j ≡ true → has hold j ≡ false
unfolding wants
wants_free M N counts hold i j e =
    not-true _ (and_both (ltb 0 (count M N counts i j)) _ (and_both (ltb j N) _ (and_both (ltb i M) _ e).1).1).1

requested : (t : State) → Ready t → (hold i j : ℕ) → wants t.kept.card.m t.kept.card.n (table t) hold i j ≡ true → Request t hold i j
unfolding count
requested t r hold i j e =
    let w = wants_at t.kept.card.m t.kept.card.n (table t) hold i j e in
    record {
      input = w.0;
      output = w.1;
      waits = omega (arith, w.2, table_at t r (index t.kept.card i j) (index_in _ _ i j w.0 w.1));
      free = wants_free t.kept.card.m t.kept.card.n (table t) hold i j e;
    }

-- ---- a match p of any requests

module _ (rows p : List ℕ) (q : IsMatch rows p) where
  no_output_twice : (i k : ℕ) → partner p i < ports → partner p i ≡ partner p k → i ≡ k
  no_output_twice i k h e = q.match.apart i k (partner_in p q.full i h) (partner_in p q.full k (omega arith)) h e

  -- its size is the number of inputs with a partner
  size_sends : size_of p ≡ sum ports (λ i. keep (not (eqb (partner p i) none)) 1)
  unfolding size_of
  size_sends = sum_cong ports _ _ (λ i _. go i (q.named i))
    where
      go : (i : ℕ) → (partner p i < ports) ⊎ (partner p i ≡ none) → keep (ltb (partner p i) ports) 1 ≡ keep (not (eqb (partner p i) none)) 1
      go i (inl h) = rw (lt-ltb (partner p i) ports h, ne_eqb (partner p i) none (λ e. absurd (omega arith))) refl
      go i (inr e) = rw (le-ltb (partner p i) ports (omega arith), eq-eqb (partner p i) none e) refl

-- the size and the weight are those of the partners
module _ (t : State) (r : Ready t) (hold : ℕ) (h : names_below t.kept.card.n hold ≡ true) where
  pairs_are : (match_of t.kept hold).pairs ≡ size_of (match_of t.kept hold).partners
  pairs_are = rw (match_is t r hold h) refl

  weighs_are : (match_of t.kept hold).weighs ≡ weight_of (ins_of t) (outs_of t) (match_of t.kept hold).partners
  weighs_are = rw (match_is t r hold h) refl

-- ---- the report of an accepted slot

pub record Reported (s : State) (c : Call) (r : Stepped) : Type 0 where
  -- "The answer is a match of greatest weight. Among those .. take the first in dictionary order"
  pub best : Best (rows_of (reached s c) c.hold) (ins_of (reached s c)) (outs_of (reached s c)) r.report.partners
  -- "A match is a set of requests with no input and no output twice": an input has one partner by what a report is
  pub once : (i k : ℕ) → partner r.report.partners i < ports → partner r.report.partners i ≡ partner r.report.partners k → i ≡ k
  pub asked : (i : ℕ) → partner r.report.partners i < ports → Request (reached s c) c.hold i (partner r.report.partners i)
  -- "Its size is the number of pairs, its weight the sum of theirs": and each pair sends a cell
  pub pairs : r.report.pairs ≡ size_of r.report.partners
  pub sends : r.report.pairs ≡ departed_in c r
  pub weighs : r.report.weighs ≡ weight_of (ins_of (reached s c)) (outs_of (reached s c)) r.report.partners

agreed_reported : (s : State) (c : Call) → Way s c → Reported s c (agreed s c)
unfolding accepted
agreed_reported s c w =
    let t = reached s c in
    let ready = w.arriving.ready in
    let b = best_of t ready c.hold w.held in
    record {
      best = b;
      once = no_output_twice (rows_of t c.hold) (partners_of s c) b.match;
      asked = λ i l. requested t ready c.hold i (partner (partners_of s c) i) (asked_of t ready c.hold w.held i l);
      pairs = pairs_are t ready c.hold w.held;
      sends = pairs_are t ready c.hold w.held ∙ size_sends (rows_of t c.hold) (partners_of s c) b.match;
      weighs = weighs_are t ready c.hold w.held;
    }

-- "Requests and totals are taken after the arrivals .., then the match": so of any accepted call
pub reported : (s : State) → Ready s → (c : Call) → (answer s c).refusal ≡ 0 → Reported s c (answer s c)
reported s r c = by_way s r c (λ x. x.refusal ≡ 0 → Reported s c x) (λ w _. agreed_reported s c w) (λ k d e. absurd (d e))

-- and so of every accepted call of a run from a fresh card: c comes after the calls
pub reported_in_run : (card : Card) (cells stamps : List ℕ) → fresh_refusal card (length cells) (length stamps) ≡ 0 → (calls : List Call) (c : Call)
    → (let s = after (start card cells stamps) calls in (answer s c).refusal ≡ 0 → Reported s c (answer s c))
reported_in_run card cells stamps e calls c =
    reported (after (start card cells stamps) calls) (after_keeps calls (start card cells stamps) (is_new card cells stamps e).ready).ready c
