-- The starred cases hold: both sides are computed from the definitions. Assumes nothing.
use mathlib.Core.Path.{refl}
use Rattle.words.specs.Bytes.{number_at, bytes_of}
use Rattle.kinds.specs.Time.{ticks_of}
use Rattle.kinds.specs.Kinds.{kinds, kind_of, known, allowed, scaled, timed, indexed}
use Rattle.rules.specs.Rules.{and_edge, on_delay, off_delay, shift_register, unheld_of, actual_of, triggers_on, threshold_trigger, compared, amplified, counts_on, up_down_counter, stairway_switch}
use Rattle.connectors.specs.Connectors.{connectors_at, member, takes, least, greatest, names_block, misfits, wrong_sort, wrong, later, any_of}
use Rattle.blockfield.specs.BlockField.{signeds_at, wrong_length, wrong_kind, wrong_inputs, later_inputs, block_faults}
use Rattle.fields.specs.Fields.{header_faults, row_faults, end_faults, limit_of, spot_of}
use Rattle.decoding.specs.Decoded.{index_used, destination_used}
use Rattle.circuit.specs.Circuit.{by_tag, tag_faults, field_faults, field_number, taken, closing, walk, verdict_at, answer_to, answer_at}
use Rattle.kept.specs.Keeps.{encode, field, connector_bytes, signed_bytes, block_content, row_content}
use Rattle.blocks.specs.Blocks.{prepared, rules, worked_out}
use Rattle.lines.specs.Lines.{line_of, lines_of}
use Rattle.record.specs.Places.{index_of, place_of, change_from}
use Rattle.record.specs.Sound.{every, sound}
use Rattle.steps.specs.Steps.{source_of, plain_bit, bit_from, bits_of, values_of, becomes, step, order, along, steps_from, turned}
use Rattle.destinations.specs.Destinations.{carried, destined, outputs_of}
use Rattle.calls.specs.Calls.{is_reading, faults, refusal, gives, leaves, shows, answer_on, record_on, outputs_on, answer_after, record_after, outputs_after}
use Rattle.cases.specs.Starred.{AllComeOut, table}

pub starred : AllComeOut table
unfolding table
    encode field block_content row_content connector_bytes signed_bytes bytes_of
    answer_after record_after outputs_after answer_on record_on outputs_on refusal faults is_reading gives leaves shows
    answer_at answer_to verdict_at walk closing taken field_number field_faults tag_faults by_tag
    header_faults block_faults row_faults end_faults limit_of spot_of destination_used index_used
    wrong_length wrong_kind wrong_inputs later_inputs signeds_at connectors_at
    wrong misfits wrong_sort later any_of member takes least greatest names_block number_at
    known allowed kind_of kinds scaled timed indexed ticks_of
    lines_of line_of sound every index_of place_of change_from
    turned steps_from order along step becomes bits_of values_of bit_from plain_bit source_of
    prepared worked_out rules and_edge on_delay off_delay shift_register threshold_trigger triggers_on unheld_of actual_of compared amplified up_down_counter counts_on stairway_switch
    outputs_of destined carried
starred = (refl, (refl, (refl, (refl, (refl, (refl, (refl, (refl, (refl, (refl, (refl, (refl, (refl, (refl, (refl, (refl, (refl, (refl, (refl, tt)))))))))))))))))))
