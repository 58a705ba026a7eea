use Rattle.bn_top.proofs.AnswerLemmas.{answers-are-one, requests-are-answered}
use Rattle.bn_top.proofs.BuildTextLemmas.{built-return}
use Rattle.bn_top.proofs.ClosedLemmas.{ends_given, machine_told, generated_told, window_told}
use Rattle.bn_top.proofs.CommandClauseLemmas.{answers-tell_commands}
use Rattle.bn_top.proofs.LawLemmas.{ends_give_clauses-apart}
use Rattle.bn_top.proofs.TextLemmas.{compiled-return, realised-return, mirrored-return, farmed-return}
use Rattle.bn_top.proofs.PrintedCompiledLemmas.{compiling-again}
use Rattle.bn_top.proofs.PrintedErasedLemmas.{ends-tell, erased-tables, erased-tables_come_out, erased-tables_end}
use Rattle.bn_top.proofs.PrintedErasedLemmas.{erased-tables_output}
use Rattle.bn_top.proofs.PrintedInverseLemmas.{inversed-return}
use Rattle.bn_top.proofs.laws.top_laws.Goals as goal

pub returns : goal.returns
returns _ = record {
  one_answer = answers-are-one;
  each_request_has_an_answer = requests-are-answered;
  ends_give_clauses = (ends_give_clauses-apart, ends_given);
  answers_tell_machine = machine_told;
  answers_tell_found = window_told;
  answers_tell_commands = answers-tell_commands;
  generate_tells_machine = generated_told;
  printed_texts_return = (compiled-return, built-return, realised-return, mirrored-return, farmed-return);
  compiling_is_building = compiling-again;
  erased_tables_erase = erased-tables;
  ends_tell_halts = ends-tell;
  erased_tables_come_out = erased-tables_come_out;
  inversed_tables_return = inversed-return;
  erased_tables_tell_output = erased-tables_output;
  erased_tables_end = erased-tables_end;
}
