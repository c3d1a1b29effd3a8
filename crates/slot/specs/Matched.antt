-- The match of a slot: what the report's partners are, and that each is none or has a cell to take. Assumes nothing.
use Rattle.std.specs.Prelude.{◌≡◌, ℕ, ◌<◌, ◌≤◌, true, ◌⊎◌, List, length, take}
use Rattle.std.proofs.Common.{sym, ◌∙◌, arith, length-take-le, get_or-take}
use Rattle.std.proofs.Math.Logic.{inl, inr}
use Rattle.masks.specs.Tests.{clash}
use Rattle.card.specs.Paper.{ports, none, names_below, index}
use Rattle.matches.specs.Paper.{at, partner, Best, best, count, wants, table_rows, table_in, table_out, table_refusal, table_match, answer, size_of, weight_of}
use Rattle.matches.proofs.Computed.{best_is_best}
use Rattle.matches.proofs.Accepted.{ok_table}
use Rattle.matches.proofs.Table.{wants_in, wants_at, table_asks}
use Rattle.matches.proofs.Lists.{partner_in}
use Rattle.slot.specs.Paper.{State, match_of}
use Rattle.slot.specs.Stretch.{index_in}
use Rattle.slot.specs.Ready.{Ready, used, used_small}
use Rattle.slot.specs.Sending.{Sends, Partners}

-- the table of a card: the counts of its M·N queues
abbrev pub table : State → List ℕ
table s = take (used s) s.kept.counts

module _ (s : State) (r : Ready s) where
  pub table_long : length (table s) ≡ used s
  table_long = length-take-le (used s) s.kept.counts (let h = used_small s r in omega (arith, r.counts_long))

  pub table_at : (k : ℕ) → k < used s → at (table s) k ≡ at s.kept.counts k
  table_at k l = get_or-take (used s) s.kept.counts k 0 l

module _ (s : State) (r : Ready s) (hold : ℕ) (h : names_below s.kept.card.n hold ≡ true) where
  abbrev M : ℕ
  M = s.kept.card.m

  abbrev N : ℕ
  N = s.kept.card.n

  pub table_taken : table_refusal M N (table s) hold ≡ 0
  table_taken = ok_table M N (table s) hold (record { sizes = r.sizes.ports; full = table_long s r; held = h })

  -- "The answer is a match of greatest weight. Among those .. take the first in dictionary order"
  pub match_is : match_of s.kept hold ≡ record {
    refusal = 0;
    partners = best (table_rows M N (table s) hold) (table_in M N (table s)) (table_out M N (table s));
    pairs = size_of (best (table_rows M N (table s) hold) (table_in M N (table s)) (table_out M N (table s)));
    weighs = weight_of (table_in M N (table s)) (table_out M N (table s)) (best (table_rows M N (table s) hold) (table_in M N (table s)) (table_out M N (table s)));
  }
  unfolding match_of table_match answer
  match_is = rw table_taken

  pub best_of : Best (table_rows M N (table s) hold) (table_in M N (table s)) (table_out M N (table s)) (match_of s.kept hold).partners
  best_of = rw match_is (best_is_best (table_rows M N (table s) hold) (table_in M N (table s)) (table_out M N (table s)))

  -- a matched input and output have a request
  pub asked_of : (i : ℕ) → partner (match_of s.kept hold).partners i < ports → wants M N (table s) hold i (partner (match_of s.kept hold).partners i) ≡ true
  asked_of i l =
      let b = best_of.match in
      let k = partner_in (match_of s.kept hold).partners b.full i l in
      sym (table_asks M N (table s) hold i _ k l) ∙ b.match.asked i k l

  pub are_partners : Partners s.kept.card s.kept.counts (match_of s.kept hold).partners
  unfolding count
  are_partners = record { all = λ i l. go i (best_of.match.named i) }
    where
      go : (i : ℕ) → (partner (match_of s.kept hold).partners i < ports) ⊎ (partner (match_of s.kept hold).partners i ≡ none)
          → Sends s.kept.card s.kept.counts i (partner (match_of s.kept hold).partners i)
      go i (inr e) = inl e
      go i (inl l) =
          let j = partner (match_of s.kept hold).partners i in
          let w = wants_at M N (table s) hold i j (asked_of i l) in
          let k = index_in M N i j w.0 w.1 in
          inr (w.1, omega (arith, w.2, table_at s r (index s.kept.card i j) k))

  -- an input from M on has no partner
  pub none_above : (i : ℕ) → M ≤ i → partner (match_of s.kept hold).partners i ≡ none
  none_above i l = go (best_of.match.named i)
    where
      go : (partner (match_of s.kept hold).partners i < ports) ⊎ (partner (match_of s.kept hold).partners i ≡ none) → partner (match_of s.kept hold).partners i ≡ none
      go (inr e) = e
      go (inl b) = clash {b = wants M N (table s) hold i (partner (match_of s.kept hold).partners i)} (asked_of i b) (wants_in M N (table s) hold i _ l)
