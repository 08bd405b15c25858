-- The computed drawings. Assumes nothing.
use mathlib.Core.Path.{refl}
use Rattle.sets.specs.Tests.{◌and◌, ◌or◌, ◌implies◌, pick}
use Rattle.sets.specs.Sets.{mem, count, all, mask, within, size, without}
use Rattle.quorum.specs.Quorum.{enough}
use Rattle.plan.specs.Plan.{heard_by, hears}
use Rattle.closure.specs.FaultSet.{hears_enough, is_bounded, is_fault_set}
use Rattle.closure.specs.Closure.{joins, grow, reached_after, reached, cut_off}
use Rattle.closure.specs.Verdict.{defeats, better, best_below, verdict_of, verdict}
use Rattle.tolerance.specs.Greatest.{passes_with, greatest_below, greatest}
use Rattle.tolerance.specs.Rows.{Computed}

pub computed : Computed
unfolding ◌and◌ ◌or◌ ◌implies◌ pick mem count all mask within size without enough heard_by hears hears_enough is_bounded is_fault_set joins grow reached_after reached cut_off defeats better best_below verdict_of verdict passes_with greatest_below greatest
computed = record {
  source_link = (refl, refl);
  last_link = (refl, refl);
  one_way = (refl, refl);
}
