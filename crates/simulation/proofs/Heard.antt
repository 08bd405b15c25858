-- On a shared channel what is heard is the layout of what is said: of the script's word, or of what a good terminal says. Assumes nothing.
use Prim.Native.Nat.{ℕ}
use mathlib.Core.Path.{◌≡◌, refl}
use mathlib.Core.Bool.{Bool, true, false}
use mathlib.Core.List.{List}
use lib.ListN.{get_or}
use Rattle.sets.specs.Tests.{pick}
use Rattle.quorum.specs.Notice.{layout_of}
use Rattle.quorum.specs.Words.{shared_place_of}
use Rattle.propagation.specs.Channel.{shared_script_of}
use Rattle.simulation.specs.declared.Turn.{Turn}
use Rattle.simulation.specs.Turns.{heard_where, shared_in}

picked : (hears bad : Bool) (word said : ℕ) → layout_of (pick hears (pick bad word said) 0) ≡ pick hears (pick bad (layout_of word) (layout_of said)) 0
unfolding pick layout_of
picked true true word said = refl
picked true false word said = refl
picked false bad word said = refl

pub layout_heard : (t : Turn) (words : List ℕ) (j : ℕ) → layout_of (heard_where t j (get_or words (shared_place_of t.plan.n t.round j) 0)) ≡ shared_in t words j
unfolding heard_where shared_in shared_script_of
layout_heard t words j = picked _ _ _ _
