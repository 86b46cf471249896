-- The lines of an inspection. Assumes nothing.
use Rattle.std.specs.Prelude.{ℕ, List, ◌++◌, Ok, Err, codes, decimal, Result}
use Rattle.fault.specs.declared.kinds.Fault.{Fault}
use Rattle.fault.specs.Texts.{fault_text}
use Rattle.inspection.specs.declared.survey.Survey.{Survey}
use Rattle.console.specs.declared.lines.PageLine.{PageLine}
use Rattle.console.specs.declared.lines.Totals.{Totals}

abbrev pub verdict_text : Result Survey Fault → List ℕ
verdict_text (Ok s) = codes " lawful " ++ (decimal s.objects ++ (codes " objects " ++ (decimal s.free ++ codes " free")))
verdict_text (Err e) = codes " refused " ++ fault_text e

abbrev pub page_text : PageLine → List ℕ
page_text x = codes "page " ++ (decimal x.page ++ verdict_text x.verdict)

abbrev pub total_text : Totals → List ℕ
total_text x =
    codes "total " ++ (decimal x.pages ++ (codes " pages " ++ (decimal x.lawful ++ (codes " lawful " ++ (decimal x.objects ++ (codes " objects " ++ (decimal x.links ++ codes " links")))))))
