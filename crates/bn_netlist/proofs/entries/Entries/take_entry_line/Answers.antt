use Rattle.std.proofs.Common.{sym}
use Rattle.std.proofs.lemmas.Result.{IfErr-weaker}
use Rattle.bn_netlist.proofs.NetLemmas.{on_ok}
use Rattle.bn_netlist_laws.specs.Reading.{named_targets}
use Rattle.bn_netlist_laws.specs.Sentences.{Element}
use Rattle.bn_netlist.proofs.TakeLemmas.{takes, refuses, element_line_is, element_nameable}
use Rattle.bn_netlist.proofs.entries.Entries.take_entry_line.Goals as goal

pub take_element-requires-clause-nameable : goal.take_element-requires-clause-nameable
take_element-requires-clause-nameable c = element_nameable c.args.line.now c.in-Some.row (sym c.in-Some.ensures)

pub returns-in-Some-clause-read : goal.returns-in-Some-clause-read
returns-in-Some-clause-read c =
    on_ok c.take_element.result (λ reads rows holds. takes c.args.header.now rows c.args.line.now
    (Element c.in-Some.row.number c.in-Some.row.state (named_targets c.in-Some.row.targets)) c.args.self.now.lines
    c.args.self.now.rows c.take_element.new.self.lines c.take_element.new.self.rows c.args.self.now.states.items
    c.take_element.new.self.states.items c.args.self.now.own.items c.take_element.new.self.own.items
    c.args.self.now.ends.drawn c.take_element.new.self.ends.drawn c.args.self.now.ends.fed.items
    c.take_element.new.self.ends.fed.items c.requires.room holds
    (element_line_is c.args.header.now rows c.args.line.now c.args.self.now.lines c.args.self.now.rows
    c.args.self.now.states.items c.args.self.now.own.items c.args.self.now.ends.drawn
    c.args.self.now.ends.fed.items holds c.in-Some.row c.requires.none (sym c.in-Some.ensures)) (reads rows holds))
    c.take_element.ensures.read

pub returns-in-Some-clause-refused : goal.returns-in-Some-clause-refused
returns-in-Some-clause-refused c =
    IfErr-weaker c.take_element.result _ _ (λ r refused rows holds. refuses c.args.header.now rows c.args.line.now
    (Element c.in-Some.row.number c.in-Some.row.state (named_targets c.in-Some.row.targets)) c.args.self.now.lines
    c.args.self.now.rows c.args.self.now.states.items c.args.self.now.own.items c.args.self.now.ends.drawn
    c.args.self.now.ends.fed.items r c.requires.room holds (element_line_is c.args.header.now rows c.args.line.now
    c.args.self.now.lines c.args.self.now.rows c.args.self.now.states.items c.args.self.now.own.items
    c.args.self.now.ends.drawn c.args.self.now.ends.fed.items holds c.in-Some.row c.requires.none
    (sym c.in-Some.ensures)) (refused rows holds)) c.take_element.ensures.refused
