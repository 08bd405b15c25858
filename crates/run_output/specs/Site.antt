-- What `run` prints on any file: a line for each terminal, or why the file is refused. Assumes nothing.
use Rattle.std.specs.Prelude.{ℕ, zero, suc, ◌*◌, ◌≤◌, ◌<◌, Bool, true, List, [], ◌∷◌, ◌++◌, ◌≡◌, take}
use Rattle.sets.specs.Tests.{pick}
use Rattle.sets.specs.Sets.{Terminal, Set, mem}
use Rattle.terminal.specs.declared.State.{State}
use Rattle.terminal.specs.declared.State.TheVariants.{Waiting, Taken}
use Rattle.propagation.specs.Run.{Script, Office, office_of, site, script_of}
use Rattle.propagation.specs.Channel.{SharedScript, shared_script_of, shared_site}
use Rattle.faults.specs.Check.{fault_cause_of, shared_fault_cause_of}
use Rattle.quorum.specs.Notice.{Notice, edition_of, layout_of}
use Rattle.quorum.specs.Words.{start_sound}
use Rattle.simulation.specs.Answer.{office_sound}
use Rattle.text.specs.Digits.{hex_byte, hex_pair}
use Rattle.lines.specs.declared.Form.{Form}
use Rattle.lines.specs.declared.Form.TheVariants.{Old, New}
use Rattle.frames.specs.declared.Progress.{Progress}
use Rattle.frames.specs.Reading.{FileRead, is_shared, Lists, run_reading, file_read}
use Rattle.output.specs.OnFile.{text_on}

-- a notice as it is printed: in the old form its layout alone, in the new one its edition and its layout (document 02, P8)
unfoldable pub notice_text : Form → Notice → List ℕ
notice_text Old notice = hex_pair (layout_of notice)
notice_text New notice = hex_pair (edition_of notice) ++ hex_pair (layout_of notice)

-- 82: a terminal's number, its state (00 waiting, 01 taken, 02 bad), the round in which it took, and the notice
unfoldable pub terminal_line : Form → (b : Terminal) (state round : ℕ) → Notice → List ℕ
terminal_line form b state round notice = hex_byte 130 ++ hex_byte b ++ hex_byte state ++ hex_byte round ++ notice_text form notice ++ (10 ∷ [])

-- a good terminal's line: round and notice are zero where it has not taken
unfoldable pub good_line : Form → (b : Terminal) → State → List ℕ
good_line form b Waiting = terminal_line form b 0 0 0
good_line form b (Taken round notice) = terminal_line form b 1 round notice

-- a bad terminal has neither round nor notice
unfoldable pub state_line : Form → (b : Terminal) (bad : Bool) → State → List ℕ
state_line form b bad state = pick bad (terminal_line form b 2 0 0) (good_line form b state)

-- the lines of the terminals 0 to k - 1 in ascending order, where `faulty` are the bad ones and `state b` is terminal b's after the last round
unfoldable pub site_lines : Form → (k : ℕ) (faulty : Set) (state : Terminal → State) → List ℕ
site_lines form zero faulty state = []
site_lines form (suc k) faulty state = site_lines form k faulty state ++ state_line form k (mem k faulty) (state k)

-- the liars' script of an accepted run file: a word for each round, sender and hearer, the first of the 16,000 places that the reader fills
unfoldable pub script_read : Progress → (words : List ℕ) → Script
script_read p words = script_of p.plan.n (take (p.rounds * (p.plan.n * p.plan.n)) words)

-- its office: the start, and what is issued in the rounds that are played
unfoldable pub office_read : Progress → (later : List ℕ) → Office
office_read p later = office_of p.notice (take p.rounds later)

-- on a shared channel (document 02, P11) the script has a word for each round and sender
unfoldable pub shared_read : Progress → (words : List ℕ) → SharedScript
shared_read p words = shared_script_of p.plan.n (take (p.rounds * p.plan.n) words)

-- terminal b's state after the run by the rules, on a shared channel and with a word for each hearer
unfoldable pub state_shared : Progress → (words : List ℕ) (b : Terminal) → State
state_shared p words b = (shared_site p.plan p.faulty (layout_of p.notice) p.default (shared_read p words) p.rounds b).state

unfoldable pub state_linked : Progress → Lists → (b : Terminal) → State
state_linked p said b = (site p.plan p.faulty (office_read p said.later) (script_read p said.words) p.rounds b).state

unfoldable pub state_ran : Progress → Lists → (b : Terminal) → State
state_ran p said b = pick (is_shared p) (state_shared p said.words b) (state_linked p said b)

-- the lines of the run
unfoldable pub ran_text : Progress → Lists → List ℕ
ran_text p said = site_lines p.form p.plan.n p.faulty (state_ran p said)

-- what `run` prints: the terminals after the run that the file asks for
unfoldable pub ran_on : (read : FileRead) → Lists → List ℕ
ran_on read said = text_on read (ran_text read.progress said)

unfoldable pub run_text : (file : List ℕ) → List ℕ
run_text file = ran_on (file_read (run_reading file)) (run_reading file).said

-- what the run needs of what was read, so that it is not refused; every accepted file has it (proofs/SiteLaws.antt)
pub record SharedPlayable (p : Progress) : Type 0 where
  pub twenty : p.plan.n ≤ 20
  pub forty : p.rounds ≤ 40
  pub bad_set : shared_fault_cause_of p.plan p.faulty ≡ 0
  pub in_range : start_sound (layout_of p.notice) p.rounds ≡ true
  pub some_default : p.default ≡ 0 → ⊥
  pub default_small : p.default < 65536

pub record Playable (p : Progress) (later : List ℕ) : Type 0 where
  pub twenty : p.plan.n ≤ 20
  pub forty : p.rounds ≤ 40
  pub bad_set : fault_cause_of p.plan p.faulty ≡ 0
  pub in_range : start_sound (layout_of p.notice) p.rounds ≡ true
  pub rises : office_sound p.notice (take p.rounds later) ≡ true
