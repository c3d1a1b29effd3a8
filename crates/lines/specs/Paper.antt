-- Document 01, "The replay program": its lines, as lists of bytes. This file is what a reader must believe. Assumes nothing.
use Rattle.std.specs.Prelude.{cond, List, [], ◌∷◌, ◌++◌, ℕ, zero, suc, ◌+◌, ◌/◌, ◌%◌, ltb, eqb}
use Rattle.card.specs.declared.Counters.{Counters}
use Rattle.card.specs.Paper.{ports, none}
use Rattle.matches.specs.Paper.{at, partner}
use Rattle.slot.specs.Paper.{Report}

-- "Numbers are decimal": at most ten digits, as 32 bits have; 48 is the digit 0
unfoldable pub digits : (most x : ℕ) → List ℕ
digits zero x = []
digits (suc most) x = cond (ltb x 10) ((48 + x) ∷ []) (digits most (x / 10) ++ (48 + x % 10) ∷ [])

abbrev pub decimal : ℕ → List ℕ
decimal x = digits 10 x

-- "one space between fields"
abbrev pub field : ℕ → List ℕ
field x = 32 ∷ decimal x

-- ` input>output:cell/wait`
unfoldable pub sending : (input output cell wait : ℕ) → List ℕ
sending input output cell wait = field input ++ 62 ∷ decimal output ++ 58 ∷ decimal cell ++ 47 ∷ decimal wait

-- "for each matched input in order": the first n inputs
unfoldable pub sendings : ℕ → Report → List ℕ
sendings zero r = []
sendings (suc i) r = sendings i r ++ cond (eqb (partner r.partners i) none) [] (sending i (partner r.partners i) (at r.cells i) (at r.waits i))

-- "Each slot prints `S`, slot, size, weight, drop mask, then for each matched input .."; every line ends in one line feed
unfoldable pub slot_line : (slot : ℕ) → Report → List ℕ
slot_line slot r = 83 ∷ field slot ++ field r.pairs ++ field r.weighs ++ field r.dropped ++ sendings ports r ++ 10 ∷ []

-- "Last comes `T` with offered, stored, dropped, departed, waiting"
unfoldable pub last_line : Counters → (waiting : ℕ) → List ℕ
last_line c waiting = 84 ∷ field c.offered ++ field c.stored ++ field c.dropped ++ field c.departed ++ field waiting ++ 10 ∷ []

-- "A refused log prints only `R`, the refusal, and the record's number"
unfoldable pub refusal_line : (refusal number : ℕ) → List ℕ
refusal_line refusal number = 82 ∷ field refusal ++ field number ++ 10 ∷ []
