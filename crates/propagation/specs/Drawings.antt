-- The drawings A to J of document 01, its remark on f (n - 1 is read, n is refused), F with groups that fail together (document 02, P10), and a notice that
-- was overtaken (document 02, P8), as rows of one table: a question, and the answer that the documents give. B is judged as a plan record; as a file it is the archive's
-- (crates/verdict_output/specs/DrawingB.antt). Assumes nothing.
use Rattle.std.specs.Prelude.{ℕ, ◌+◌, ◌^◌, Bool, false, List, [], ◌∷◌, ◌++◌, eqb, length, take}
use Rattle.sets.specs.Tests.{◌and◌, ◌or◌, pick}
use Rattle.sets.specs.Tables.{table}
use Rattle.sets.specs.Sets.{Terminal, Set, mask}
use Rattle.quorum.specs.declared.BoundKind.TheVariants.{Groups}
use Rattle.quorum.specs.declared.Bound.{Bound}
use Rattle.quorum.specs.Quorum.{most_terminals, most_groups, no_groups, at_most}
use Rattle.quorum.specs.Notice.{Notice, notice_of, edition_of, layout_of}
use Rattle.terminal.specs.declared.State.{State}
use Rattle.terminal.specs.declared.State.TheVariants.{Waiting, Taken}
use Rattle.plan.specs.declared.Plan.{Plan}
use Rattle.closure.specs.Answer.{Answer, answer_of}
use Rattle.propagation.specs.Run.{silence, one_notice, office_of, site}

-- "0>1" of the document: terminal 1 hears terminal 0
infix 90 ◌▷◌
pub data Link : Type 0 where
  ◌▷◌ : ℕ → ℕ → Link

unfoldable pub linked : List Link → (a b : Terminal) → Bool
linked [] a b = false
linked (from ▷ to ∷ links) a b = (eqb from a and eqb to b) or linked links a b

-- a drawing: n, who may be bad together, its links; the source is 0 throughout
unfoldable pub drawn : (n : ℕ) → Bound → List Link → Plan
drawn n bound links = record { n = n; source = 0; bound = bound; rows = table most_terminals (λ b. mask most_terminals (λ a. linked links a b)) }

-- document 01's have the bound f
unfoldable pub drawing : (n f : ℕ) → List Link → Plan
drawing n f links = drawn n (at_most f) links

-- groups that fail together, and empty places after them
unfoldable pub groups_of : List Set → Bound
groups_of groups = record { kind = Groups (length groups); groups = take most_groups (groups ++ no_groups) }

-- a set by its members
unfoldable pub set_of : List Terminal → Set
set_of [] = 0
set_of (i ∷ s) = 2 ^ i + set_of s

pub data Question : Type 0 where
  judge : Plan → Question
  state_after : ℕ → Plan → Set → ℕ → Question
  state_later : ℕ → Plan → Set → List Notice → ℕ → Question

pub data Told : Type 0 where
  pass : Told
  fail : ℕ → ℕ → ℕ → Told
  refusal : ℕ → Told
  waits : Told
  takes : (round edition layout : ℕ) → Told

unfoldable pub of_answer : Answer → Told
of_answer a = pick (eqb a.number 0) (pick (eqb a.failed 0) pass (fail a.f a.l a.r)) (refusal a.number)

unfoldable pub of_state : State → Told
of_state Waiting = waits
of_state (Taken round notice) = takes round (edition_of notice) (layout_of notice)

-- the definitions' own answers; the liars of a run are silent, and it starts with layout 7 in edition 1
unfoldable pub answer : Question → Told
answer (judge p) = of_answer (answer_of p)
answer (state_after rounds p faulty b) = of_state (site p faulty (one_notice (notice_of 1 7)) silence rounds b).state
answer (state_later rounds p faulty later b) = of_state (site p faulty (office_of (notice_of 1 7) later) silence rounds b).state

pub record Row : Type 0 where
  pub asked : Question
  pub expected : Told

unfoldable pub links_f : List Link
links_f = 0 ▷ 1 ∷ 0 ▷ 2 ∷ 0 ▷ 3 ∷ 1 ▷ 4 ∷ 2 ▷ 4 ∷ 3 ▷ 4 ∷ []

unfoldable pub links_h : List Link
links_h = 0 ▷ 1 ∷ 0 ▷ 2 ∷ 0 ▷ 3 ∷ 0 ▷ 4 ∷ 1 ▷ 5 ∷ 2 ▷ 5 ∷ 6 ▷ 5 ∷ 3 ▷ 6 ∷ 4 ▷ 6 ∷ 5 ▷ 6 ∷ []

-- F with {1,2} and {3}, and with {1}, {2} and {3}
unfoldable pub pair_f : Plan
pair_f = drawn 5 (groups_of (set_of (1 ∷ 2 ∷ []) ∷ set_of (3 ∷ []) ∷ [])) links_f

unfoldable pub singles_f : Plan
singles_f = drawn 5 (groups_of (set_of (1 ∷ []) ∷ set_of (2 ∷ []) ∷ set_of (3 ∷ []) ∷ [])) links_f

-- a plan of six in which terminal 5 hears of each notice from terminal 1 a round before it hears of it from terminal 4
unfoldable pub lagging : Plan
lagging = drawing 6 1 (0 ▷ 1 ∷ 0 ▷ 2 ∷ 0 ▷ 3 ∷ 1 ▷ 4 ∷ 2 ▷ 4 ∷ 3 ▷ 4 ∷ 1 ▷ 5 ∷ 2 ▷ 5 ∷ 4 ▷ 5 ∷ [])

-- later notices in the rounds 1 to 3
unfoldable pub mind_changed : List Notice
mind_changed = notice_of 2 8 ∷ notice_of 3 7 ∷ notice_of 4 9 ∷ []

unfoldable pub chain : List Link
chain = 0 ▷ 1 ∷ 1 ▷ 2 ∷ []

unfoldable pub rows : List Row
rows =
    record { asked = judge (drawing 2 0 (0 ▷ 1 ∷ [])); expected = pass }
    ∷ record { asked = judge (drawing 2 0 []); expected = fail (set_of []) (set_of (0 ∷ [])) (set_of (1 ∷ [])) }
    ∷ record { asked = judge (drawing 3 0 chain); expected = pass }
    ∷ record { asked = state_after 1 (drawing 3 0 chain) (set_of []) 2; expected = waits }
    ∷ record { asked = state_after 2 (drawing 3 0 chain) (set_of []) 2; expected = takes 2 1 7 }
    ∷ record { asked = judge (drawing 3 1 chain); expected = fail (set_of []) (set_of (0 ∷ 1 ∷ [])) (set_of (2 ∷ [])) }
    ∷ record {
      asked = judge (drawing 4 1 (0 ▷ 1 ∷ 0 ▷ 2 ∷ 1 ▷ 3 ∷ 2 ▷ 3 ∷ []));
      expected = fail (set_of (1 ∷ [])) (set_of (0 ∷ 2 ∷ [])) (set_of (3 ∷ []));
    }
    ∷ record { asked = judge (drawing 5 1 links_f); expected = pass }
    ∷ record { asked = judge (drawing 5 2 links_f); expected = fail (set_of (1 ∷ [])) (set_of (0 ∷ 2 ∷ 3 ∷ [])) (set_of (4 ∷ [])) }
    ∷ record { asked = judge (drawing 7 1 links_h); expected = fail (set_of (1 ∷ 3 ∷ [])) (set_of (0 ∷ 2 ∷ 4 ∷ [])) (set_of (5 ∷ 6 ∷ [])) }
    ∷ record { asked = judge (drawing 7 1 (links_h ++ (1 ▷ 0 ∷ 2 ▷ 0 ∷ 3 ▷ 0 ∷ 4 ▷ 0 ∷ []))); expected = pass }
    ∷ record { asked = judge (drawing 1 0 []); expected = refusal 4 }
    ∷ record { asked = judge (drawing 5 4 links_f); expected = fail (set_of []) (set_of (0 ∷ 1 ∷ 2 ∷ 3 ∷ [])) (set_of (4 ∷ [])) }
    ∷ record { asked = judge (drawing 5 5 links_f); expected = refusal 4 }
    ∷ record { asked = judge pair_f; expected = fail (set_of (3 ∷ [])) (set_of (0 ∷ 1 ∷ 2 ∷ [])) (set_of (4 ∷ [])) }
    ∷ record { asked = state_after 4 pair_f (set_of (3 ∷ [])) 4; expected = waits }
    ∷ record { asked = judge singles_f; expected = pass }
    ∷ record { asked = state_after 2 singles_f (set_of (3 ∷ [])) 4; expected = takes 2 1 7 }
    ∷ record { asked = judge lagging; expected = pass }
    ∷ record { asked = state_after 5 lagging (set_of (2 ∷ [])) 5; expected = takes 3 1 7 }
    ∷ record { asked = state_later 5 lagging (set_of (2 ∷ [])) mind_changed 4; expected = takes 5 4 9 }
    ∷ record { asked = state_later 5 lagging (set_of (2 ∷ [])) mind_changed 5; expected = waits }
    ∷ record { asked = state_later 8 lagging (set_of (2 ∷ [])) mind_changed 5; expected = takes 6 4 9 }
    ∷ []
