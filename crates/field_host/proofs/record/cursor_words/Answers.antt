-- The words are those of the cursor's sort.
use Rattle.std.proofs.Common.{rules}
use Rattle.field_host.specs.Carried.{cursor_tag, cursor_node, cursor_place, cursor_point}
use Rattle.field_host.proofs.record.cursor_words.Goals as goal

pub returns-in-End : goal.returns-in-End
unfolding cursor_tag cursor_node cursor_place cursor_point
returns-in-End c = search rules

pub returns-in-Corner : goal.returns-in-Corner
unfolding cursor_tag cursor_node cursor_place cursor_point
returns-in-Corner c = search rules

pub returns-in-Point : goal.returns-in-Point
unfolding cursor_tag cursor_node cursor_place cursor_point
returns-in-Point c = search rules
