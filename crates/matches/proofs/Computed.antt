-- `best` satisfies `Best`, and is the only list that does. Assumes nothing.
use Rattle.std.specs.Prelude.{◌≡◌, ◌⊎◌, Bool, true, false, cond, ◌&&◌, ◌||◌, ltb, eqb}
use Rattle.std.proofs.Math.Path.{refl, ap, ap₂, subst}
use Rattle.std.proofs.Common.{sym, ◌∙◌, eq-or-lt_of_le, le_antisymm, ltb-true, ltb-false, eqb-true, eq-eqb}
use Rattle.std.proofs.Math.Logic.{inl, inr}
use Rattle.std.proofs.Math.Bool.{not}
use mathlib.Core.List.{List, [], ◌∷◌}
use Prim.Native.Nat.{ℕ, zero, suc, ◌+◌, ◌≤◌, ◌<◌}
use Rattle.std.proofs.Math.Nat.{suc_inj}
use native.Mathlib.Omega.{arith}
use Rattle.std.proofs.Math.ListN.{length}
use Rattle.masks.specs.Paper.{sum}
use Rattle.masks.specs.Tests.{clash, and_true, and_both}
use Rattle.masks.specs.Sum.{sum_head}
use Rattle.card.specs.Paper.{ports, none}
use Rattle.matches.specs.Paper.{member, asks, partner, IsMatch, weight_of, First, Best, Part, gain, add, heavier, pick, best_from, best}
use Rattle.matches.proofs.Lists.{partner_in}
use Rattle.matches.proofs.Order.{first_antisym}

neither : (a b : Bool) → (a ≡ true → ⊥) → not b ≡ true → not (a || b) ≡ true
neither true b x y = absurd (x refl)
neither false b x y = y

not_left : (a b : Bool) → not (a || b) ≡ true → a ≡ true → ⊥
not_left true b t x = clash {b = false} t refl
not_left false b t x = clash x refl

not_right : (a b : Bool) → not (a || b) ≡ true → not b ≡ true
not_right true b t = clash {b = false} t refl
not_right false b t = t

module _ (rows wi wo : List ℕ) where
  -- p gives partners to the inputs from i on, with none of the outputs `taken`
  abbrev pub Fits : ℕ → List ℕ → List ℕ → Type 0
  Fits i taken [] = Unit {0}
  Fits i taken (j ∷ p) = ((j ≡ none) × Fits (suc i) taken p) ⊎ ((j < ports) × ((asks rows i j && not (member j taken)) ≡ true) × Fits (suc i) (j ∷ taken) p)

  abbrev pub weigh : ℕ → List ℕ → ℕ
  weigh i [] = 0
  weigh i (j ∷ p) = gain wi wo i j + weigh (suc i) p

  -- a is heavier than q, or as heavy and not after it
  abbrev pub Leads : ℕ → Part → List ℕ → Type 0
  Leads i a q = (weigh i q < a.weighs) ⊎ ((weigh i q ≡ a.weighs) × First a.partners q)

  pub at_most : (i : ℕ) (a : Part) (q : List ℕ) → Leads i a q → weigh i q ≤ a.weighs
  at_most i a q (inl h) = omega arith
  at_most i a q (inr h) = omega (arith, h.0)

  pub record Good (n i : ℕ) (taken : List ℕ) (a : Part) : Type 0 where
    pub long : length a.partners ≡ n
    pub fits : Fits i taken a.partners
    pub heavy : weigh i a.partners ≡ a.weighs
    pub leads : (q : List ℕ) → length q ≡ n → Fits i taken q → Leads i a q

  -- one input: what `pick` finds leads every list whose first partner is j or later
  record Found (n i : ℕ) (taken : List ℕ) (j : ℕ) (a : Part) : Type 0 where
    long : length a.partners ≡ suc n
    fits : Fits i taken a.partners
    heavy : weigh i a.partners ≡ a.weighs
    leads : (k : ℕ) (q : List ℕ) → j ≤ k → length q ≡ n → Fits i taken (k ∷ q) → Leads i a (k ∷ q)

  module _ (n i : ℕ) (taken : List ℕ) (rest : List ℕ → Part) (good : (t : List ℕ) → Good n (suc i) t (rest t)) where
    free : ℕ → Bool
    free j = asks rows i j && not (member j taken)

    with : ℕ → Part
    with j = add j (gain wi wo i j) (rest (j ∷ taken))

    last : Part
    last = add none 0 (rest taken)

    same_head : (k : ℕ) (t q : List ℕ) → length q ≡ n → Fits (suc i) t q → Leads i (add k (gain wi wo i k) (rest t)) (k ∷ q)
    unfolding add
    same_head k t q l f = go ((good t).leads q l f)
      where
        go : Leads (suc i) (rest t) q → Leads i (add k (gain wi wo i k) (rest t)) (k ∷ q)
        go (inl h) = inl (omega arith)
        go (inr h) = inr (omega arith, inr (refl, h.1))

    last_found : Found n i taken ports last
    unfolding last add gain
    last_found = record {
      long = ap suc (good taken).long;
      fits = inl (refl, (good taken).fits);
      heavy = ap (λ (x : ℕ). 0 + x) (good taken).heavy;
      leads = leads;
    }
      where
        leads : (k : ℕ) (q : List ℕ) → ports ≤ k → length q ≡ n → Fits i taken (k ∷ q) → Leads i last (k ∷ q)
        leads k q jk l (inl f) = subst (λ (x : ℕ). Leads i last (x ∷ q)) (sym f.0) (same_head none taken q l f.1)
        leads k q jk l (inr f) = absurd (omega (arith, f.0))

    -- j is free: the candidate j, and r that was found behind it
    module _ (j : ℕ) (small : j < ports) (is_free : free j ≡ true) (r : Part) (found : Found n i taken (suc j) r) where
      at_j : (k : ℕ) (q : List ℕ) → j ≡ k → length q ≡ n → Fits i taken (k ∷ q) → Leads i (with j) (k ∷ q)
      unfolding with
      at_j k q e l (inl f) = absurd (omega (arith, f.0))
      at_j k q e l (inr f) = subst (λ (x : ℕ). Leads i (with j) (x ∷ q)) e (same_head j (j ∷ taken) q l (subst (λ (x : ℕ). Fits (suc i) (x ∷ taken) q) (sym e) f.2))

      kept : ltb (with j).weighs r.weighs ≡ false → Found n i taken j (with j)
      unfolding with add free
      kept e = record {
        long = ap suc (good (j ∷ taken)).long;
        fits = inr (small, is_free, (good (j ∷ taken)).fits);
        heavy = ap (λ (x : ℕ). gain wi wo i j + x) (good (j ∷ taken)).heavy;
        leads = λ k q jk l f. at k q (eq-or-lt_of_le jk) l f;
      }
        where
          tied : (k : ℕ) (q : List ℕ) → j < k → (weigh i (k ∷ q) ≡ (with j).weighs) ⊎ (weigh i (k ∷ q) < (with j).weighs) → Leads i (with j) (k ∷ q)
          tied k q h (inl e) = inr (e, inl h)
          tied k q h (inr l) = inl l

          at : (k : ℕ) (q : List ℕ) → (j ≡ k) ⊎ (j < k) → length q ≡ n → Fits i taken (k ∷ q) → Leads i (with j) (k ∷ q)
          at k q (inl e) l f = at_j k q e l f
          at k q (inr h) l f = tied k q h (eq-or-lt_of_le (omega (arith, at_most i r (k ∷ q) (found.leads k q h l f), ltb-false (with j).weighs r.weighs e)))

      beaten : ltb (with j).weighs r.weighs ≡ true → Found n i taken j r
      beaten e = record { long = found.long; fits = found.fits; heavy = found.heavy; leads = λ k q jk l f. at k q (eq-or-lt_of_le jk) l f }
        where
          at : (k : ℕ) (q : List ℕ) → (j ≡ k) ⊎ (j < k) → length q ≡ n → Fits i taken (k ∷ q) → Leads i r (k ∷ q)
          at k q (inl e') l f = inl (omega (arith, at_most i (with j) (k ∷ q) (at_j k q e' l f), ltb-true (with j).weighs r.weighs e))
          at k q (inr h) l f = found.leads k q h l f

      either : (b : Bool) → ltb (with j).weighs r.weighs ≡ b → Found n i taken j (cond b r (with j))
      either true e = beaten e
      either false e = kept e

    -- j is not free: what was found behind it
    passed : (j : ℕ) → j < ports → free j ≡ false → (r : Part) → Found n i taken (suc j) r → Found n i taken j r
    unfolding free
    passed j small e r found = record { long = found.long; fits = found.fits; heavy = found.heavy; leads = λ k q jk l f. at k q (eq-or-lt_of_le jk) l f }
      where
        at : (k : ℕ) (q : List ℕ) → (j ≡ k) ⊎ (j < k) → length q ≡ n → Fits i taken (k ∷ q) → Leads i r (k ∷ q)
        at k q (inl e') l (inl f) = absurd (omega (arith, f.0))
        at k q (inl e') l (inr f) = clash (subst (λ (x : ℕ). free x ≡ true) (sym e') f.1) e
        at k q (inr h) l f = found.leads k q h l f

    picked : (m j : ℕ) → m + j ≡ ports → Found n i taken j (pick m j free with last)
    unfolding pick heavier
    picked zero j e = subst (λ (x : ℕ). Found n i taken x last) (omega arith) last_found
    picked (suc m) j e = step (free j) refl (picked m (suc j) (omega arith))
      where
        small : j < ports
        small = omega arith

        r : Part
        r = pick m (suc j) free with last

        step : (b : Bool) → free j ≡ b → Found n i taken (suc j) r → Found n i taken j (elim b [ true ↦ heavier (with j) r | false ↦ r ])
        step true e f = either j small e r f (ltb (with j).weighs r.weighs) refl
        step false e f = passed j small e r f

    found_good : (a : Part) → Found n i taken 0 a → Good (suc n) i taken a
    found_good a f = record { long = f.long; fits = f.fits; heavy = f.heavy; leads = leads }
      where
        leads : (q : List ℕ) → length q ≡ suc n → Fits i taken q → Leads i a q
        leads [] l g = absurd (omega arith)
        leads (k ∷ q) l g = f.leads k q (omega arith) (suc_inj l) g

  pub search_good : (n i : ℕ) (taken : List ℕ) → Good n i taken (best_from rows wi wo n i taken)
  unfolding best_from free with last
  search_good zero i taken = record { long = refl; fits = tt; heavy = refl; leads = leads }
    where
      leads : (q : List ℕ) → length q ≡ 0 → Fits i taken q → Leads i (record { partners = []; weighs = 0 }) q
      leads [] l f = inr (refl, tt)
      leads (k ∷ q) l f = absurd (omega arith)
  search_good (suc n) i taken = found_good n i taken (best_from rows wi wo n (suc i)) (search_good n (suc i)) _ (picked n i taken (best_from rows wi wo n (suc i)) (search_good n (suc i)) ports 0 refl)

  -- `Fits`, place by place
  pub record Apart (i : ℕ) (taken p : List ℕ) : Type 0 where
    pub named : (k : ℕ) → (partner p k < ports) ⊎ (partner p k ≡ none)
    pub asked : (k m : ℕ) → m ≡ i + k → partner p k < ports → asks rows m (partner p k) ≡ true
    pub fresh : (k : ℕ) → partner p k < ports → not (member (partner p k) taken) ≡ true
    pub once : (k l : ℕ) → partner p k < ports → partner p k ≡ partner p l → k ≡ l

  pub to_fits : (p : List ℕ) (i : ℕ) (taken : List ℕ) → Apart i taken p → Fits i taken p
  unfolding member
  to_fits [] i taken a = tt
  to_fits (j ∷ p) i taken a = go (λ t. to_fits p (suc i) t) (a.named 0)
    where
      tail : (t : List ℕ) → ((k : ℕ) → partner p k < ports → not (member (partner p k) t) ≡ true) → Apart (suc i) t p
      tail t fresh = record {
        named = λ k. a.named (suc k);
        asked = λ k m e h. a.asked (suc k) m (omega arith) h;
        fresh = fresh;
        once = λ k l h e. suc_inj (a.once (suc k) (suc l) h e);
      }

      other : (k : ℕ) → j < ports → partner p k < ports → not (member (partner p k) (j ∷ taken)) ≡ true
      other k small h = neither (eqb (partner p k) j) (member (partner p k) taken) (λ t. absurd (omega (arith, a.once 0 (suc k) small (sym (eqb-true _ _ t))))) (a.fresh (suc k) h)

      go : ((t : List ℕ) → Apart (suc i) t p → Fits (suc i) t p) → (j < ports) ⊎ (j ≡ none) → Fits i taken (j ∷ p)
      go rec (inl small) = inr (small, and_true (a.asked 0 i (omega arith) small) (a.fresh 0 small), rec (j ∷ taken) (tail (j ∷ taken) (λ k h. other k small h)))
      go rec (inr e) = inl (e, rec taken (tail taken (λ k h. a.fresh (suc k) h)))

  with_none : (i j : ℕ) (taken p : List ℕ) → j ≡ none → Apart (suc i) taken p → Apart i taken (j ∷ p)
  with_none i j taken p e a = record { named = named; asked = asked; fresh = fresh; once = once }
    where
      named : (k : ℕ) → (partner (j ∷ p) k < ports) ⊎ (partner (j ∷ p) k ≡ none)
      named zero = inr e
      named (suc k) = a.named k

      asked : (k m : ℕ) → m ≡ i + k → partner (j ∷ p) k < ports → asks rows m (partner (j ∷ p) k) ≡ true
      asked zero m e' h = absurd (omega arith)
      asked (suc k) m e' h = a.asked k m (omega arith) h

      fresh : (k : ℕ) → partner (j ∷ p) k < ports → not (member (partner (j ∷ p) k) taken) ≡ true
      fresh zero h = absurd (omega arith)
      fresh (suc k) h = a.fresh k h

      once : (k l : ℕ) → partner (j ∷ p) k < ports → partner (j ∷ p) k ≡ partner (j ∷ p) l → k ≡ l
      once zero l h e' = absurd (omega arith)
      once (suc k) zero h e' = absurd (omega arith)
      once (suc k) (suc l) h e' = ap suc (a.once k l h e')

  with_output : (i j : ℕ) (taken p : List ℕ) → j < ports → ((asks rows i j && not (member j taken)) ≡ true) → Apart (suc i) (j ∷ taken) p → Apart i taken (j ∷ p)
  unfolding member
  with_output i j taken p small idle a = record { named = named; asked = asked; fresh = fresh; once = once }
    where
      differs : (k : ℕ) → partner p k < ports → partner p k ≡ j → ⊥
      differs k h e = not_left (eqb (partner p k) j) (member (partner p k) taken) (a.fresh k h) (eq-eqb (partner p k) j e)

      named : (k : ℕ) → (partner (j ∷ p) k < ports) ⊎ (partner (j ∷ p) k ≡ none)
      named zero = inl small
      named (suc k) = a.named k

      asked : (k m : ℕ) → m ≡ i + k → partner (j ∷ p) k < ports → asks rows m (partner (j ∷ p) k) ≡ true
      asked zero m e h = let e' : i ≡ m = omega arith in subst (λ (x : ℕ). asks rows x j ≡ true) e' (and_both _ _ idle).0
      asked (suc k) m e h = a.asked k m (omega arith) h

      fresh : (k : ℕ) → partner (j ∷ p) k < ports → not (member (partner (j ∷ p) k) taken) ≡ true
      fresh zero h = (and_both (asks rows i j) (not (member j taken)) idle).1
      fresh (suc k) h = not_right (eqb (partner p k) j) (member (partner p k) taken) (a.fresh k h)

      once : (k l : ℕ) → partner (j ∷ p) k < ports → partner (j ∷ p) k ≡ partner (j ∷ p) l → k ≡ l
      once zero zero h e = refl
      once zero (suc l) h e = absurd (differs l (omega arith) (sym e))
      once (suc k) zero h e = absurd (differs k h e)
      once (suc k) (suc l) h e = ap suc (a.once k l h e)

  pub from_fits : (p : List ℕ) (i : ℕ) (taken : List ℕ) → Fits i taken p → Apart i taken p
  from_fits [] i taken f = record { named = λ k. inr refl; asked = λ k m e h. absurd (omega arith); fresh = λ k h. absurd (omega arith); once = λ k l h e. absurd (omega arith) }
  from_fits (j ∷ p) i taken (inl f) = with_none i j taken p f.0 (from_fits p (suc i) taken f.1)
  from_fits (j ∷ p) i taken (inr f) = with_output i j taken p f.0 f.1 (from_fits p (suc i) (j ∷ taken) f.2)

  pub sum_weigh : (p : List ℕ) (i : ℕ) (f : ℕ → ℕ) → ((k m : ℕ) → m ≡ i + k → f k ≡ gain wi wo m (partner p k)) → sum (length p) f ≡ weigh i p
  unfolding sum
  sum_weigh [] i f h = refl
  sum_weigh (j ∷ p) i f h = sum_head (length p) f ∙ ap₂ ◌+◌ (h 0 i (omega arith)) (sum_weigh p (suc i) (λ k. f (suc k)) (λ k m e. h (suc k) m (omega arith)))

  module _ (p : List ℕ) where
    weight_weigh : length p ≡ ports → weight_of wi wo p ≡ weigh 0 p
    unfolding weight_of gain
    weight_weigh l = ap (λ (n : ℕ). sum n (λ i. gain wi wo i (partner p i))) (sym l) ∙ sum_weigh p 0 _ (λ k m e. ap (λ (x : ℕ). gain wi wo x (partner p k)) (omega arith))

    match_fits : IsMatch rows p → Fits 0 [] p
    unfolding member
    match_fits m = to_fits p 0 [] (record {
      named = m.named;
      asked = λ k x e h. let e' : k ≡ x = omega arith in subst (λ (y : ℕ). asks rows y (partner p k) ≡ true) e' (m.match.asked k (partner_in p m.full k h) h);
      fresh = λ k h. refl;
      once = λ k l h e. m.match.apart k l (partner_in p m.full k h) (partner_in p m.full l (omega arith)) h e;
    })

    fits_match : length p ≡ ports → Fits 0 [] p → IsMatch rows p
    fits_match l f = let a = from_fits p 0 [] f in record {
      full = l;
      named = a.named;
      match = record { asked = λ i li h. a.asked i i (omega arith) h; apart = λ i k li lk h e. a.once i k h e };
    }

  pub best_is_best : Best rows wi wo (best rows wi wo)
  unfolding best
  best_is_best = record {
    match = fits_match p g.long g.fits;
    heaviest = λ q m. omega (arith, w, weight_weigh q m.full, at_most 0 a q (lead q m));
    first = λ q m e. by q (lead q m) (omega (arith, w, weight_weigh q m.full));
  }
    where
      a : Part
      a = best_from rows wi wo ports 0 []

      p : List ℕ
      p = a.partners

      g : Good ports 0 [] a
      g = search_good ports 0 []

      w : weight_of wi wo p ≡ a.weighs
      w = weight_weigh p g.long ∙ g.heavy

      lead : (q : List ℕ) → IsMatch rows q → Leads 0 a q
      lead q m = g.leads q m.full (match_fits q m)

      by : (q : List ℕ) → Leads 0 a q → weigh 0 q ≡ a.weighs → First p q
      by q (inl h) e = absurd (omega arith)
      by q (inr h) e = h.1

-- ---- two lists that satisfy `Best` are equal

module _ (rows wi wo p q : List ℕ) (bp : Best rows wi wo p) (bq : Best rows wi wo q) where
  same_weight : weight_of wi wo q ≡ weight_of wi wo p
  same_weight = le_antisymm (bp.heaviest q bq.match) (bq.heaviest p bp.match)

  pub unique : p ≡ q
  unique = first_antisym p q (bp.match.full ∙ sym bq.match.full) (bp.first q bq.match same_weight) (bq.first p bp.match (sym same_weight))

-- whoever answers with a best list answers with `best`
pub only : (rows wi wo p : List ℕ) → Best rows wi wo p → p ≡ best rows wi wo
only rows wi wo p b = unique rows wi wo p (best rows wi wo) b (best_is_best rows wi wo)
