-- A fresh card: a slot can work on it, nothing waits in it, and its counters and slot number are 0. Assumes nothing.
use Rattle.std.specs.Prelude.{◌≡◌, refl, List, ℕ, ◌<◌, length}
use Rattle.std.proofs.Common.{sym, ◌∙◌, subst, arith, lit<}
use Rattle.masks.specs.Sum.{sum_zero}
use Rattle.card.specs.declared.Card.{Card}
use Rattle.matches.specs.Paper.{at}
use Rattle.slot.specs.Paper.{State, Made, zeros, blank, fresh_refusal, queue_at}
use Rattle.slot.specs.Ready.{Ready, used, used_small, count_at}
use Rattle.slot.specs.Fresh.{fits, cleared, fresh_is, cleared_count, cleared_ready}
use Rattle.runs.specs.Paper.{start, waiting}
use Rattle.runs.proofs.Stamps.{Words, below_replicate}

pub record New (c : Card) (s : State) : Type 0 where
  pub ready : Ready s
  pub card : s.kept.card ≡ c
  pub slot : s.kept.slot ≡ 0
  pub counters : s.kept.counters ≡ zeros
  pub words : Words s
  pub empty : (k : ℕ) → k < used s → (queue_at s k).count ≡ 0

cleared_new : (c : Card) (cells stamps : List ℕ) → fresh_refusal c (length cells) (length stamps) ≡ 0 → New c (cleared c cells stamps)
unfolding blank
cleared_new c cells stamps e =
    let s = cleared c cells stamps in
    let r = cleared_ready c cells stamps (fits c _ _ e) in
    record {
      ready = r;
      card = refl;
      slot = refl;
      counters = refl;
      words = record { slot_fits = lit< tt; stamps_fit = below_replicate _ (length stamps) 0 (lit< tt) };
      empty = λ k l. count_at s k ∙ cleared_count c cells stamps k (omega (arith, used_small s r));
    }

-- "A fresh card clears both to 0, and its record has M, N, D and 0 in all else"
pub is_new : (c : Card) (cells stamps : List ℕ) → fresh_refusal c (length cells) (length stamps) ≡ 0 → New c (start c cells stamps)
is_new c cells stamps e = subst (λ (x : Made). New c x.state) (sym (fresh_is c cells stamps e)) (cleared_new c cells stamps e)

pub none_waits : (c : Card) (s : State) → New c s → waiting s ≡ 0
unfolding waiting
none_waits c s w = sum_zero (used s) (λ k. at s.kept.counts k) (λ k l. sym (count_at s k) ∙ w.empty k l)
