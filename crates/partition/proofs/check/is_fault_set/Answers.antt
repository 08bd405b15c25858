-- The plan is sound, so the check tells. Assumes nothing.
use mathlib.Core.Path.{◌≡◌, refl, ap, ◌∙◌}
use Prim.Native.Nat.{ℕ}
use lib.Dec.{eqb}
use Rattle.std.specs.Prelude.{Result, Ok, Err, is_ok}
use Rattle.faults.specs.declared.FaultSetError.{FaultSetError}
use Rattle.faults.specs.declared.FaultSetError.TheVariants.{WrongRange, WrongLink, WrongGroups, WrongMember, OverBound}
use Rattle.faults.specs.Check.{fault_number_of}
use Rattle.faults.proofs.Laws.{fault_number}
use Rattle.partition.proofs.check.is_fault_set.Goals as goal

ok_number : (r : Result Unit FaultSetError) → is_ok r ≡ eqb (fault_number_of r) 0
ok_number (Ok _) = refl
ok_number (Err WrongRange) = refl
ok_number (Err WrongLink) = refl
ok_number (Err WrongGroups) = refl
ok_number (Err WrongMember) = refl
ok_number (Err OverBound) = refl

pub returns : goal.returns
returns c =
    c.is_ok.ensures.value ∙ ok_number c.check_fault_set.result ∙ ap (λ (k : ℕ). eqb k 0) c.check_fault_set.ensures
    ∙ fault_number _ _ c.requires
