-- The rows of drawings A and B and of the two heads, computed. Assumes nothing.
use mathlib.Core.Path.{◌≡◌, refl}
use mathlib.Core.List.{map}
use Rattle.sets.specs.Tests.{◌and◌, ◌or◌, ◌implies◌, pick}
use Rattle.sets.specs.Causes.{first_cause}
use Rattle.sets.specs.Tables.{table}
use Rattle.sets.specs.Sets.{mem, count, all, mask, within, size, with}
use Rattle.quorum.specs.Quorum.{group_at, in_range, others, groups_sound, enough}
use Rattle.plan.specs.Plan.{heard_by, hears, row_sound, links_sound, cause_within, cause_of}
use Rattle.plan.specs.Deaf.{is_deaf, deaf_set}
use Rattle.closure.specs.FaultSet.{hears_enough, is_bounded, is_fault_set}
use Rattle.closure.specs.Closure.{joins, grow, reached_after, reached, cut_off}
use Rattle.closure.specs.Verdict.{defeats, better, best_below, verdict_of, verdict}
use Rattle.closure.specs.Answer.{judged, answer_within}
use Rattle.digits.specs.Digits.{sixteen, by_case, digit_of, character_of, is_digit}
use Rattle.text.specs.Digits.{hex_byte, hex_pair, hex_triple}
use Rattle.lines.specs.Bytes.{all_digits, well_formed, digit_at, byte_at, bytes_of}
use Rattle.lines.specs.Frames.{head_of, link_of, kind_of, known_frame, frame_of}
use Rattle.frames.specs.Lines.{last_line, lines_from}
use Rattle.frames.specs.Reading.{is_at, in_plan, kind_read, head_cause, link_cause, cause_in, untaken_cause, heads_cause, line_cause, ends_links, links_cause, end_cause, linked, after, said_after, told, reading, plan_reading, archive_reading, quote_reading}
use Rattle.output.specs.OnFile.{refusal_line, text_on}
use Rattle.verdict_output.specs.Verdict.{verdict_line, answer_text, verdict_on, verdict_text, archive_text, quote_text}
use Rattle.verdict_output.specs.DrawingB.{head_with, head_b, link_a, rows, Row}

pub printed : map (λ (r : Row). r.printed) rows ≡ map (λ (r : Row). r.expected) rows
unfolding ◌and◌ ◌or◌ ◌implies◌ pick first_cause table mem count all mask within size with group_at in_range others groups_sound enough heard_by hears row_sound links_sound cause_within cause_of is_deaf deaf_set hears_enough is_bounded is_fault_set joins grow reached_after reached cut_off defeats better best_below verdict_of verdict judged answer_within sixteen by_case digit_of character_of is_digit hex_byte hex_pair hex_triple all_digits well_formed digit_at byte_at bytes_of head_of link_of kind_of known_frame frame_of last_line lines_from is_at in_plan kind_read head_cause link_cause cause_in untaken_cause heads_cause line_cause ends_links links_cause end_cause linked after said_after told reading plan_reading archive_reading quote_reading refusal_line text_on verdict_line answer_text verdict_on verdict_text archive_text quote_text head_with head_b link_a rows
printed = refl
