use Rattle.std.proofs.Common.{Bool, sym, ◌∙◌}
use Rattle.script.specs.Spelling.{GrammarLaws}
use Rattle.script.proofs.grammar.Numbers.{number_reads, number_writes}
use Rattle.script.proofs.steps.Spelling.{form_spelled}
use Rattle.script.proofs.steps.laws_shown.Goals as goal

laws : (rounds : Bool) → GrammarLaws rounds
laws rounds = record {
  reads = number_reads;
  writes = number_writes;
  spells = form_spelled rounds;
  alone = λ size other line line' step first second. sym (form_spelled rounds size line step first) ∙ form_spelled rounds other line' step second;
}

pub returns : goal.returns
returns g c = laws _
