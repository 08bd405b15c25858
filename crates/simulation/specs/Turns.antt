-- The run as the code plays it: one record a turn, terminal by terminal, round by round; round 0 writes the start records. No caller sees this:
-- proofs/Meaning.antt shows that the records show those of the run by the rules. Assumes nothing.
use Rattle.std.specs.Prelude.{ℕ, zero, suc, ◌+◌, ◌-◌, ◌≤◌, ◌<◌, not, List, eqb, ltb, length, get_or, set, take, replicate, ◌≡◌}
use Rattle.sets.specs.Tests.{◌and◌, pick}
use Rattle.sets.specs.Tables.{table}
use Rattle.sets.specs.Sets.{mem}
use Rattle.quorum.specs.Notice.{layout_of, silent}
use Rattle.quorum.specs.Words.{most_rounds}
use Rattle.terminal.specs.declared.Record.{Record}
use Rattle.terminal.specs.Rule.{says_in}
use Rattle.terminal.specs.Shown.{shown, nothing_heard}
use Rattle.terminal.specs.Answer.{record_after, record_issued}
use Rattle.terminal.specs.Channel.{shared_record_after}
use Rattle.plan.specs.declared.Plan.{Plan}
use Rattle.plan.specs.Plan.{heard_by, hears}
use Rattle.propagation.specs.Run.{script_of, start_record}
use Rattle.propagation.specs.Channel.{shared_script_of}
use Rattle.simulation.specs.declared.Turn.{Turn}

-- how a turn makes a terminal's record of the one before
abbrev pub Maker : Type 0
Maker = Turn → Record → Record

-- a player that makes of each turn that can be played the record that `make` says
pub record Plays (pre : Turn → Record → Type 0) (post : Turn → Record → Record → Type 0) (make : Maker) : Type 0 where
  pub may : (t : Turn) (before : Record) → t.plan.n ≤ 20 → t.at < t.plan.n → t.round ≤ 40 → pre t before
  pub makes : (t : Turn) (before after : Record) → post t before after → after ≡ make t before

-- ---- a run with a word for each hearer

-- what the terminal whose turn it is hears from terminal j this round, where a bad one says `word`
unfoldable pub heard_where : Turn → (j word : ℕ) → ℕ
heard_where t j word = pick (hears t.plan t.at j) (pick (mem j t.faulty) word (get_or t.spoken j 0)) 0

-- the script's word
unfoldable pub heard_in : Turn → List ℕ → ℕ → ℕ
heard_in t words j = heard_where t j (script_of t.plan.n words t.round j t.at)

-- what the office issues this round is written into the source's record after its step
unfoldable pub issued_in : Turn → Record → Record
issued_in t r =
    pick (eqb t.at t.plan.source and not (silent (get_or t.later (t.round - 1) 0))) (record_issued r (get_or t.later (t.round - 1) 0)) r

-- its record after the turn: the start record, or what the step answers on the record before, and then what the office issues
unfoldable pub record_of : List ℕ → Maker
record_of words t before =
    pick (eqb t.round 0) (shown (start_record t.plan t.first t.at))
    (pick (mem t.at t.faulty) nothing_heard
    (issued_in t (record_after t.plan.n t.plan.source t.plan.bound t.at (heard_by t.plan t.at) before (take t.plan.n (table 20 (heard_in t words))))))

-- ---- a run on a shared channel (document 02, P11)

-- the layout that the terminal whose turn it is hears from terminal j this round
unfoldable pub shared_in : Turn → List ℕ → ℕ → ℕ
shared_in t words j =
    pick (hears t.plan t.at j)
    (pick (mem j t.faulty) (shared_script_of t.plan.n words t.round j) (layout_of (get_or t.spoken j 0))) 0

-- its record after the turn: that of a bad one, the start record, or what the step answers on the record before
unfoldable pub shared_record_of : List ℕ → Maker
shared_record_of words t before =
    pick (mem t.at t.faulty) nothing_heard
    (pick (eqb t.round 0) (shown (start_record t.plan t.first t.at))
    (shared_record_after t.plan.n t.plan.source t.plan.bound t.at (heard_by t.plan t.at) t.default before (take t.plan.n (table 20 (shared_in t words)))))

-- ---- the walk, whatever makes the records

-- the next turn, where this terminal says `word` in the next round: what is said in a round is fixed before its first step
unfoldable pub next_turn : Turn → ℕ → Turn
next_turn t word =
    pick (ltb (t.at + 1) t.plan.n)
    (record {
      plan = t.plan;
      faulty = t.faulty;
      first = t.first;
      later = t.later;
      round = t.round;
      at = t.at + 1;
      spoken = t.spoken;
      next = set t.next t.at word;
      default = t.default;
    })
    (record {
      plan = t.plan;
      faulty = t.faulty;
      first = t.first;
      later = t.later;
      round = t.round + 1;
      at = 0;
      spoken = set t.next t.at word;
      next = replicate 20 0;
      default = t.default;
    })

-- a record that was made, and the turn after it
pub record Made : Type 0 where
  pub turn : Turn
  pub after : Record

unfoldable pub made_of : Maker → Turn → Record → Made
made_of make t before = record {
  turn = next_turn t (says_in (t.round + 1) (make t before).state);
  after = make t before;
}

-- the turn and the records after some turns
pub record Played : Type 0 where
  pub turn : Turn
  pub records : List Record

unfoldable pub play_one : Maker → Played → Played
play_one make s = record {
  turn = (made_of make s.turn (get_or s.records s.turn.at nothing_heard)).turn;
  records = set s.records s.turn.at (made_of make s.turn (get_or s.records s.turn.at nothing_heard)).after;
}

unfoldable pub played_after : Maker → Played → ℕ → Played
played_after make s zero = s
played_after make s (suc k) = play_one make (played_after make s k)

-- the later notices that are carried: those of the rounds 1 to 40, silence past the list's end
abbrev pub carried : List ℕ → List ℕ
carried later = table most_rounds (λ i. get_or later i 0)

-- the first turn; the default is that of a shared channel, 0 where each hearer has its word
abbrev pub first_turn : Plan → (faulty first : ℕ) (later : List ℕ) (default : ℕ) → Turn
first_turn p faulty first later default = record {
  plan = p;
  faulty = faulty;
  first = first;
  later = carried later;
  round = 0;
  at = 0;
  spoken = replicate 20 0;
  next = replicate 20 0;
  default = default;
}

-- a turn that can be played on some places
pub record Ready (t : Turn) (places : ℕ) : Type 0 where
  pub twenty : t.plan.n ≤ 20
  pub within : t.at < t.plan.n
  pub early : t.round ≤ 40
  pub place : t.at < places

-- each of the turns on from t can be played
abbrev pub CanPlay : Maker → Turn → List Record → ℕ → Type 0
CanPlay make t records turns = (k : ℕ) → k < turns → Ready (played_after make (record { turn = t; records = records }) k).turn (length records)

-- by a player, which follows what some `make` says
abbrev pub Playable : (pre : Turn → Record → Type 0) (post : Turn → Record → Record → Type 0) → Turn → List Record → (turns : ℕ) → Type 0
Playable pre post t records turns = (make : Maker) × (Plays pre post make × CanPlay make t records turns)

-- the records that the turns on from t leave
abbrev pub left_after : Maker → Turn → List Record → ℕ → List Record
left_after make t records turns = (played_after make (record { turn = t; records = records }) turns).records
