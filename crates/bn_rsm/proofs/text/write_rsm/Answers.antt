-- The text is that of the machine's moves.
use Rattle.std.proofs.Common.{◌≡◌, ◌∙◌, ap}
use Rattle.std.proofs.lemmas.Result.{IfOk-weaker}
use Rattle.bn_csv.specs.Lines.{lines_of}
use Rattle.bn_rsm.specs.Entry.{entries_by}
use Rattle.bn_rsm.specs.Reading.{ReadsMoves}
use Rattle.bn_rsm.specs.Writing.{IsTable}
use Rattle.bn_rsm.proofs.ReadingLaws.{read_back}
use Rattle.bn_rsm.proofs.text.write_rsm.Goals as goal

pub returns-clause-text : goal.returns-clause-text
returns-clause-text c =
    IfOk-weaker c.write_moves.result (λ text. text.items ≡ lines_of (entries_by c.moves.result.now))
    (λ text. text.items ≡ lines_of (entries_by c.args.rsm.now.moves))
    (λ text e. e ∙ ap (λ ms. lines_of (entries_by ms)) c.moves.ensures) c.write_moves.ensures

pub returns-clause-read_back : goal.returns-clause-read_back
returns-clause-read_back c =
    IfOk-weaker c.write_moves.result (λ text. text.items ≡ lines_of (entries_by c.moves.result.now))
    (λ text. IsTable c.args.rsm.now → ReadsMoves text.items c.args.rsm.now)
    (λ text e h. read_back c.args.rsm.now text.items h (e ∙ ap (λ ms. lines_of (entries_by ms)) c.moves.ensures))
    c.write_moves.ensures
