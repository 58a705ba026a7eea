use Rattle.std.proofs.Common.{◌≡◌, arith, sym}
use Rattle.std.proofs.lemmas.Result.{IfErr-weaker}
use Rattle.bn_netlist.proofs.NetLemmas.{on_ok}
use Rattle.bn_netlist_laws.specs.Sentences.{Column}
use Rattle.bn_netlist_laws.proofs.DecideLemmas.{column_of-takes}
use Rattle.bn_netlist.proofs.TakeLemmas.{takes, refuses, malformed_line, first_version_unsaid, column_unsaid}
use Rattle.bn_netlist.proofs.TakeLemmas.{no_rows_unsaid, column_line_is}
use Rattle.bn_netlist.proofs.entries.Entries.take_column_line.Goals as goal

pub returns-in_default-clause-refused : goal.returns-in_default-clause-refused
returns-in_default-clause-refused c =
    let same : c.from-here.result ≡ c.args.self.now.lines = omega arith in
    λ rows holds. malformed_line c.args.header.now rows c.args.line.now c.args.self.now.lines c.args.self.now.rows
    c.from-here.result c.args.self.now.states.items c.args.self.now.own.items c.args.self.now.ends.drawn
    c.args.self.now.ends.fed.items holds same (column_unsaid c.args.header.now rows c.args.line.now
    c.args.self.now.lines c.args.self.now.rows c.args.self.now.states.items c.args.self.now.own.items
    c.args.self.now.ends.drawn c.args.self.now.ends.fed.items holds c.requires.none c.in-Two.is
    c.requires.other (sym c.in_default.ensures))

pub returns-then-rows-eq0-clause-refused : goal.returns-then-rows-eq0-clause-refused
returns-then-rows-eq0-clause-refused c =
    let same : c.from-here.result ≡ c.args.self.now.lines = omega arith in
    λ rows holds. malformed_line c.args.header.now rows c.args.line.now c.args.self.now.lines c.args.self.now.rows
    c.from-here.result c.args.self.now.states.items c.args.self.now.own.items c.args.self.now.ends.drawn
    c.args.self.now.ends.fed.items holds same (no_rows_unsaid c.args.header.now rows c.args.line.now
    c.args.self.now.lines c.args.self.now.rows c.args.self.now.states.items c.args.self.now.own.items
    c.args.self.now.ends.drawn c.args.self.now.ends.fed.items holds
    (c.in-Some.number, c.in-Some.rows, c.in-Some.state) c.requires.none c.in-Two.is c.requires.other
    (sym c.in-Some.ensures) c.if-rows-eq0.true)

pub take_column-requires-clause-small : goal.take_column-requires-clause-small
take_column-requires-clause-small c = (column_of-takes c.args.line.now
    (c.in-Some.number, c.in-Some.rows, c.in-Some.state) (sym c.in-Some.ensures)).1

pub returns-in-One-clause-refused : goal.returns-in-One-clause-refused
returns-in-One-clause-refused c =
    let same : c.from-here.result ≡ c.args.self.now.lines = omega arith in
    λ rows holds. malformed_line c.args.header.now rows c.args.line.now c.args.self.now.lines c.args.self.now.rows
    c.from-here.result c.args.self.now.states.items c.args.self.now.own.items c.args.self.now.ends.drawn
    c.args.self.now.ends.fed.items holds same (first_version_unsaid c.args.header.now rows c.args.line.now
    c.args.self.now.lines c.args.self.now.rows c.args.self.now.states.items c.args.self.now.own.items
    c.args.self.now.ends.drawn c.args.self.now.ends.fed.items holds c.requires.none c.in-One.is
    c.requires.other)

pub returns-else-rows-eq0-clause-read : goal.returns-else-rows-eq0-clause-read
returns-else-rows-eq0-clause-read c =
    on_ok c.take_column.result (λ reads rows holds. takes c.args.header.now rows c.args.line.now
    (Column c.in-Some.number c.in-Some.rows c.in-Some.state) c.args.self.now.lines c.args.self.now.rows
    c.take_column.new.self.lines c.take_column.new.self.rows c.args.self.now.states.items
    c.take_column.new.self.states.items c.args.self.now.own.items c.take_column.new.self.own.items
    c.args.self.now.ends.drawn c.take_column.new.self.ends.drawn c.args.self.now.ends.fed.items
    c.take_column.new.self.ends.fed.items c.requires.room holds
    (column_line_is c.args.header.now rows c.args.line.now c.args.self.now.lines c.args.self.now.rows
    c.args.self.now.states.items c.args.self.now.own.items c.args.self.now.ends.drawn
    c.args.self.now.ends.fed.items holds (c.in-Some.number, c.in-Some.rows, c.in-Some.state) c.requires.none
    c.in-Two.is c.requires.other (sym c.in-Some.ensures) c.if-rows-eq0.false) (reads rows holds))
    c.take_column.ensures.read

pub returns-else-rows-eq0-clause-refused : goal.returns-else-rows-eq0-clause-refused
returns-else-rows-eq0-clause-refused c =
    IfErr-weaker c.take_column.result _ _ (λ r refused rows holds. refuses c.args.header.now rows c.args.line.now
    (Column c.in-Some.number c.in-Some.rows c.in-Some.state) c.args.self.now.lines c.args.self.now.rows
    c.args.self.now.states.items c.args.self.now.own.items c.args.self.now.ends.drawn
    c.args.self.now.ends.fed.items r c.requires.room holds (column_line_is c.args.header.now rows c.args.line.now
    c.args.self.now.lines c.args.self.now.rows c.args.self.now.states.items c.args.self.now.own.items
    c.args.self.now.ends.drawn c.args.self.now.ends.fed.items holds
    (c.in-Some.number, c.in-Some.rows, c.in-Some.state) c.requires.none c.in-Two.is c.requires.other
    (sym c.in-Some.ensures) c.if-rows-eq0.false) (refused rows holds)) c.take_column.ensures.refused
