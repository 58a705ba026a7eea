use Rattle.std.proofs.Common.{ℕ, List, refl, sym, subst}
use Rattle.bn_circuits.specs.declared.place.Place.{Place}
use Rattle.bn_machine.specs.Machine.{IsMachine}
use Rattle.bn_table.proofs.MachineLemmas.{tables_machines}
use Rattle.bn_table.specs.Rows.{FitsTable}
use Rattle.bn_bennett.specs.Translation.{IsTranslation}
use Rattle.bn_reply.specs.Opened.{IsJudged, IsOpenedTable, IsOpenedWord}
use Rattle.bn_reply.specs.TableReply.{faulty, fit, read, unfit}
use Rattle.bn_reply.specs.declared.status.Status.{Status}
use Rattle.bn_reply.proofs.SettledLemmas.{foreign_replies}
use Rattle.bn_reply.proofs.TableLemmas.{reads_table}
use Rattle.bn_reply_boards.proofs.OpeningLemmas.{within_limits, word_of}
use Rattle.bn_reply_boards.proofs.opening.open_machine.Goals as goal

-- the tests of the bytes and of the machine
pub returns-in-Refused : goal.returns-in-Refused
returns-in-Refused c =
    let refused = subst (IsOpenedTable c.args.bytes.now) c.in-Refused.is c.in_ok-reply.ensures in
    faulty refused.1 refused.0 refl

pub returns-in-Refused-2 : goal.returns-in-Refused-2
returns-in-Refused-2 c =
    let t = c.in-Read.table in
    let refused = subst (IsJudged t) c.in-Refused-2.is c.in_ok-reply-2.ensures.judged in
    read t (subst (IsOpenedTable c.args.bytes.now) c.in-Read.is c.in_ok-reply.ensures) (unfit refused.1 refused.0 refl)

pub translate-requires : goal.translate-requires
translate-requires c =
    let t = c.in-Read.table in
    let reads = subst (IsOpenedTable c.args.bytes.now) c.in-Read.is c.in_ok-reply.ensures in
    let judged = subst (IsJudged t) c.in-Standard.is c.in_ok-reply-2.ensures.judged in
    subst FitsTable (sym judged.0) (tables_machines t (reads_table c.args.bytes.now t reads)).1

-- the word
pub returns-in-Refused-3 : goal.returns-in-Refused-3
returns-in-Refused-3 c =
    let t = c.in-Read.table in
    let reads = subst (IsOpenedTable c.args.bytes.now) c.in-Read.is c.in_ok-reply.ensures in
    let judged = subst (IsJudged t) c.in-Standard.is c.in_ok-reply-2.ensures.judged in
    let none : List ℕ → Status → List ℕ → List Place → Type 0 = λ symbols status text told. ⊥ in
    read t reads (fit judged.1 (foreign_replies none t c.args.word.now c.in-Refused-3.reply
    (subst (IsOpenedWord t c.args.word.now) c.in-Refused-3.is c.in_ok-reply-3.ensures)))

pub returns-in-Symbols : goal.returns-in-Symbols
returns-in-Symbols c =
    let t = c.in-Read.table in
    let m = c.in_ok-translated-in-Standard.translated in
    let reads = subst (IsOpenedTable c.args.bytes.now) c.in-Read.is c.in_ok-reply.ensures in
    let table = reads_table c.args.bytes.now t reads in
    let facts = tables_machines t table in
    let judged = subst (IsJudged t) c.in-Standard.is c.in_ok-reply-2.ensures.judged in
    let made = c.in_ok-translated-in-Standard.ensures in
    let is : IsTranslation t.machine m = subst (λ p. IsTranslation p m) judged.0 made.made in
    let spelled = subst (IsOpenedWord t c.args.word.now) c.in-Symbols.is c.in_ok-reply-3.ensures in
    record {
      reads = record { reads = reads; standard = judged.1 };
      spelled = spelled;
      translates = is;
      within = within_limits c.in-Standard.standard m (subst IsMachine (sym judged.0) facts.0)
          (subst FitsTable (sym judged.0) facts.1) made.made made.states made.quadruples;
      is_word = word_of t m c.in-Symbols.symbols.items table.symbols is spelled.symbols_known;
    }
