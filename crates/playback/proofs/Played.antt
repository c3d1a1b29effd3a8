-- The card and the lines after one slot more, and one text written behind another. Assumes nothing.
use Rattle.std.specs.Prelude.{◌≡◌, List, ◌++◌, ℕ, ◌+◌, Result, Ok, Err, OnOk}
use Rattle.std.specs.declared.option.Option.{Option}
use Rattle.std.specs.Result.{result_and, result_unwrap_or}
use Rattle.std.specs.Io.KnownBytes.{Appends}
use Rattle.std.proofs.Common.{ap, ◌∙◌, add-one}
use Rattle.std.proofs.KnownBytes.{Appends-trans}
use Rattle.card.specs.declared.Refusal.{Refusal}
use Rattle.slot.specs.declared.Record.{Record}
use Rattle.slot.specs.Paper.{State, Made, blank}
use Rattle.slot.specs.Answers.{state_of, made_of}
use Rattle.lines.specs.Paper.{slot_line}
use Rattle.playback.specs.Printed.{step, played}

pub one_more : (log : List ℕ) (s t : State) (k : ℕ) → t ≡ (played log s k).state → played log s (k + 1)
    ≡ record { state = (step log k t).state; text = (played log s k).text ++ slot_line t.kept.slot (step log k t).report }
unfolding played
one_more log s t k e = rw (add-one, e)

module _ {T E : Type 0} (r q w : Result T E) (a b c : Option (List ℕ)) (s t u : List ℕ) where
  both : (r q : Result T E) → OnOk r (Appends a b s) → OnOk q (Appends b c t) → OnOk (result_and r q) (Appends a c (s ++ t))
  both (Ok x) (Ok y) f g = Appends-trans a b c s t f g
  both (Ok x) (Err y) f g = tt
  both (Err x) q f g = tt

  -- both writes went well, or the first that failed is told
  pub both_written : w ≡ result_and r q → u ≡ s ++ t → OnOk r (Appends a b s) → OnOk q (Appends b c t) → OnOk w (Appends a c u)
  both_written e d f g = rw (e, d) (both r q f g)

-- a fresh card; refused it is the record of zeros
pub fresh_state : (r : Result Record Refusal) (zeros : Record) (cells stamps : List ℕ) (m : Made) → made_of r cells stamps ≡ m → zeros ≡ blank (record { m = 0; n = 0; d = 0 })
    → state_of (result_unwrap_or r zeros) cells stamps ≡ m.state
fresh_state (Ok r) zeros cells stamps m e z = ap (λ (x : Made). x.state) e
fresh_state (Err r) zeros cells stamps m e z = ap (λ (k : Record). state_of k cells stamps) z ∙ ap (λ (x : Made). x.state) e
