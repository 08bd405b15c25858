-- Which sets a text could speak of, byte by byte: numbers go to F, and from the phrase about the silent on to R. Only private functions cite this; whether
-- the text is the sentence of these sets is looked at afterwards. Assumes nothing.
use Rattle.std.specs.Prelude.{ℕ, ◌+◌, ◌-◌, ◌*◌, Bool, true, false, List, [], ◌∷◌, Option, Some, None, eqb, ltb, leb}
use Rattle.std.specs.Option.{unwrap_or}
use Rattle.sets.specs.Tests.{◌and◌, ◌or◌, pick}
use Rattle.sets.specs.Sets.{with}
use Rattle.wording.specs.declared.ear.Ear.{Ear}

-- nothing is heard yet
abbrev pub attentive : Ear
attentive = record { waiting = false; number = None; f = 0; r = 0 }

-- the number that was read goes to its set
abbrev pub placed_by : Option ℕ → Ear → Ear
placed_by None e = e
placed_by (Some i) e =
    pick e.waiting (record { waiting = e.waiting; number = None; f = e.f; r = with 32 e.r i })
    (record { waiting = e.waiting; number = None; f = with 32 e.f i; r = e.r })

unfoldable pub placed : Ear → Ear
placed e = placed_by e.number e

-- "Even" and "stay" come before those who wait: 69 is E, 115 is s
unfoldable pub is_turn : (byte : ℕ) → Bool
is_turn byte = eqb byte 69 or eqb byte 115

unfoldable pub turned : Ear → (byte : ℕ) → Ear
turned e byte = pick (is_turn byte) (record { waiting = true; number = e.number; f = e.f; r = e.r }) e

-- 48 to 57 are 0 to 9
unfoldable pub is_figure : (byte : ℕ) → Bool
is_figure byte = leb 48 byte and leb byte 57

-- a figure more of the number, which grows no larger than it must
unfoldable pub figured : Ear → (byte : ℕ) → Ear
figured e byte = record {
  waiting = e.waiting;
  number = pick (ltb 99 (unwrap_or e.number 0)) e.number (Some (unwrap_or e.number 0 * 10 + (byte - 48)));
  f = e.f;
  r = e.r;
}

unfoldable pub after_byte : Ear → (byte : ℕ) → Ear
after_byte e byte = pick (is_figure byte) (figured e byte) (turned (placed e) byte)

unfoldable pub after_all : Ear → (text : List ℕ) → Ear
after_all e [] = e
after_all e (byte ∷ rest) = after_all (after_byte e byte) rest
