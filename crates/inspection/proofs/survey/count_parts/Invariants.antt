use Rattle.std.proofs.Common.{◌≡◌, ◌+◌, ◌*◌, ◌≤◌, length}
use Rattle.page.specs.Types.{types, remaining}
use Rattle.inspection.specs.Surveys.{tally, unless, surveyed}
use Rattle.inspection.proofs.survey.count_parts.Given as goal

abbrev pub invariant-loop-part : goal.invariant-loop-part
invariant-loop-part l =
    (surveyed (types l.catalogue) l.pages l.page l.bytes ≡ unless (remaining l.reader).fault (tally (types l.catalogue) l.survey (remaining l.reader).parts))
    × (l.survey.objects + length (remaining l.reader).parts ≤ 64)
    × (l.survey.links + 62 * length (remaining l.reader).parts ≤ 3968)

abbrev pub decreases-loop-part : goal.decreases-loop-part
decreases-loop-part l = length (remaining l.reader).parts
