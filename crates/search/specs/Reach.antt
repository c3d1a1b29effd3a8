-- What the functions of the search promise. Assumes nothing.
use Rattle.std.specs.Prelude.{◌≡◌, List, ℕ, ◌+◌, ◌≤◌, ◌<◌, Some, None, get_or}
use Rattle.masks.specs.Paper.{With}
use Rattle.matches.specs.Paper.{at}
use Rattle.search.specs.declared.reach.Search.{Search}
use Rattle.search.specs.declared.reach.Visit.{Visit}
use Rattle.search.specs.declared.pairing.Pairing.{Pairing}
use Rattle.search.specs.Pair.{Put}
use Rattle.search.specs.Stage.{wants, Closed, Stage}

-- nobody: what is read of a queue past its end
abbrev pub no_visit : Visit
no_visit = record { port = 0; finder = 0 }

-- the port at place k of the queue, and the place of the one that found it
abbrev pub port_at : Search → ℕ → ℕ
port_at s k = (get_or s.queue k no_visit).port

abbrev pub finder_at : Search → ℕ → ℕ
finder_at s k = (get_or s.queue k no_visit).finder

abbrev pub StageOf : List ℕ → Pairing → Search → Type 0
StageOf rows p s = Stage (wants rows) (at p.mine) (at p.theirs) (port_at s) (finder_at s) s.len s.at s.outs s.ins

pub record Begun (u : ℕ) (r : Search) : Type 0 where
  pub root : port_at r 0 ≡ u
  pub len : r.len ≡ 1
  pub at0 : r.at ≡ 0
  pub outs : r.outs ≡ 0
  pub ins : With 0 u r.ins
  pub found : r.found ≡ None

pub record Passed (s r : Search) : Type 0 where
  pub queue : r.queue ≡ s.queue
  pub len : r.len ≡ s.len
  pub step : r.at ≡ s.at + 1
  pub outs : r.outs ≡ s.outs
  pub ins : r.ins ≡ s.ins
  pub found : r.found ≡ s.found

pub record Pushed (s : Search) (h j : ℕ) (r : Search) : Type 0 where
  pub queue : Put (port_at s) s.len h (port_at r)
  pub from : Put (finder_at s) s.len s.at (finder_at r)
  pub len : r.len ≡ s.len + 1
  pub same : r.at ≡ s.at
  pub outs : With s.outs j r.outs
  pub ins : With s.ins h r.ins
  pub found : r.found ≡ s.found

pub record Stopped (s : Search) (j : ℕ) (r : Search) : Type 0 where
  pub queue : r.queue ≡ s.queue
  pub len : r.len ≡ s.len
  pub same : r.at ≡ s.at
  pub outs : r.outs ≡ s.outs
  pub ins : r.ins ≡ s.ins
  pub found : r.found ≡ Some j

-- the input at `at` requests the free output j
pub record Hit (E : ℕ → ℕ → ℕ) (t q : ℕ → ℕ) (n h j : ℕ) : Type 0 where
  pub inside : h < n
  pub out : j < 32
  pub asked : E (q h) j ≡ 1
  pub vacant : 32 ≤ t j

abbrev pub HitOf : List ℕ → Pairing → Search → ℕ → Type 0
HitOf rows p s j = Hit (wants rows) (at p.theirs) (port_at s) s.len s.at j

pub record Stepped (rows : List ℕ) (p : Pairing) (s r : Search) : Type 0 where
  pub root : port_at r 0 ≡ port_at s 0
  pub stage : StageOf rows p r
  pub hit : (j : ℕ) → r.found ≡ Some j → HitOf rows p r j
  pub more : r.found ≡ None → r.at + r.len ≡ s.at + s.len + 1

pub record Reached (rows : List ℕ) (p : Pairing) (u : ℕ) (r : Search) : Type 0 where
  pub root : port_at r 0 ≡ u
  pub stage : StageOf rows p r
  pub hit : (j : ℕ) → r.found ≡ Some j → HitOf rows p r j
  pub shut : r.found ≡ None → Closed (wants rows) (at p.theirs) u r.ins

pub record Searching (rows : List ℕ) (p : Pairing) (u : ℕ) (s : Search) : Type 0 where
  pub root : port_at s 0 ≡ u
  pub stage : StageOf rows p s
  pub none : s.found ≡ None
