-- Drawings whose greatest bound is computed (document 02, P13), each with its links and without one of them. Assumes nothing.
use Rattle.std.specs.Prelude.{◌≡◌, [], ◌∷◌}
use Rattle.tolerance.specs.declared.Drawing.{Drawing}
use Rattle.tolerance.specs.Greatest.{none, up_to, greatest}
use Rattle.tolerance.specs.Links.{without_link}

-- 0>1 alone
abbrev pub pair : Drawing
pair = record { n = 2; source = 0; rows = 0 ∷ 1 ∷ [] }

-- 0>1, 1>2
abbrev pub chain : Drawing
chain = record { n = 3; source = 0; rows = 0 ∷ 1 ∷ 2 ∷ [] }

-- 0>1, 0>2, 0>3, and from these three to 4
abbrev pub three_ways : Drawing
three_ways = record { n = 5; source = 0; rows = 0 ∷ 1 ∷ 1 ∷ 1 ∷ 14 ∷ [] }

pub record Computed : Type 0 where
  -- a link from the source may cost all: from n - 1 to none
  pub source_link : (greatest pair ≡ up_to 1) × (greatest (without_link pair 0 1) ≡ none)
  -- another costs one, from 0 to none
  pub last_link : (greatest chain ≡ up_to 0) × (greatest (without_link chain 1 2) ≡ none)
  -- or from 1 to 0
  pub one_way : (greatest three_ways ≡ up_to 1) × (greatest (without_link three_ways 3 4) ≡ up_to 0)
