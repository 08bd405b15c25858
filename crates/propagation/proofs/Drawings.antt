-- The documents' drawings, computed. Assumes nothing.
use mathlib.Core.Path.{◌≡◌, refl}
use mathlib.Core.List.{map}
use Rattle.sets.specs.Tests.{◌and◌, ◌or◌, ◌implies◌, pick}
use Rattle.sets.specs.Causes.{first_cause}
use Rattle.sets.specs.Sets.{mem, count, all, some, mask, within, size}
use Rattle.quorum.specs.Quorum.{group_at, in_range, others, groups_sound, fit, enough}
use Rattle.quorum.specs.Notice.{notice_of, edition_of, layout_of, silent}
use Rattle.terminal.specs.Rule.{spoken_by, in_edition, among, is_new, with_new, with_word, noted, values_of, has_noted, certified, first_of, lesser, least, least_of, candidate, least_from, choice, layout_in, qualifying, highest, newest, chosen, held_by, taking, step, issue, says_in}
use Rattle.plan.specs.Plan.{heard_by, hears, row_sound, links_sound, cause_within}
use Rattle.closure.specs.FaultSet.{hears_enough, is_bounded, is_fault_set}
use Rattle.closure.specs.Closure.{joins, grow, reached_after, reached, cut_off}
use Rattle.closure.specs.Verdict.{defeats, better, best_below, verdict_of, verdict}
use Rattle.closure.specs.Answer.{judged, answer_within, answer_of}
use Rattle.propagation.specs.Run.{office_of, start_record, heard_from, issued, record_in, played, sites, site}
use Rattle.sets.specs.Tables.{table}
use Rattle.propagation.specs.Drawings.{linked, drawn, drawing, groups_of, set_of, of_answer, of_state, answer, links_f, links_h, pair_f, singles_f, lagging, mind_changed, chain, rows, Row}

-- the definitions answer every row as the documents do
pub drawings : map (λ (r : Row). answer r.asked) rows ≡ map (λ (r : Row). r.expected) rows
unfolding ◌and◌ ◌or◌ ◌implies◌ pick first_cause mem count all some mask group_at fit enough within size notice_of edition_of layout_of silent spoken_by in_edition among is_new with_new with_word noted values_of has_noted certified first_of lesser least least_of candidate least_from choice layout_in qualifying highest newest chosen held_by taking step issue in_range others groups_sound heard_by hears row_sound links_sound cause_within hears_enough is_bounded is_fault_set joins grow reached_after reached cut_off defeats better best_below verdict_of verdict judged answer_within answer_of table office_of start_record says_in heard_from issued record_in played sites site linked drawn drawing groups_of set_of of_answer of_state answer links_f links_h pair_f singles_f lagging mind_changed chain rows
drawings = refl
