use Rattle.std.proofs.Common.{◌≡◌, arith, sym}
use Rattle.std.proofs.lemmas.Result.{IfErr-weaker}
use Rattle.bn_netlist.proofs.NetLemmas.{on_ok}
use Rattle.bn_netlist_laws.specs.Reading.{named_target}
use Rattle.bn_netlist_laws.specs.Sentences as sentences
use Rattle.bn_netlist_laws.proofs.FitLemmas.{targets_nameable}
use Rattle.bn_netlist_laws.proofs.DecideLemmas.{sides_of-takes}
use Rattle.bn_netlist.proofs.TakeLemmas.{takes, refuses, malformed_line, row_unsaid, row_is}
use Rattle.bn_netlist.proofs.entries.Entries.take_row_line.Goals as goal

pub returns-in_default-clause-refused : goal.returns-in_default-clause-refused
returns-in_default-clause-refused c =
    let same : c.from.result ≡ c.args.self.now.lines = omega arith in
    λ rows holds. malformed_line c.args.header.now rows c.args.line.now c.args.self.now.lines c.args.self.now.rows
    c.from.result c.args.self.now.states.items c.args.self.now.own.items c.args.self.now.ends.drawn
    c.args.self.now.ends.fed.items holds same (row_unsaid c.args.header.now rows c.args.line.now
    c.args.self.now.lines c.args.self.now.rows c.args.self.now.states.items c.args.self.now.own.items
    c.args.self.now.ends.drawn c.args.self.now.ends.fed.items holds c.requires.some
    (sym c.in_default.ensures))

pub take_row-requires-clause-nameable : goal.take_row-requires-clause-nameable
take_row-requires-clause-nameable c =
    targets_nameable (named_target c.in-Some.east) (named_target c.in-Some.west)
    (sides_of-takes c.args.line.now (c.in-Some.east, c.in-Some.west) (sym c.in-Some.ensures)).0

pub returns-clause-read : goal.returns-clause-read
returns-clause-read c =
    on_ok c.take_row.result (λ reads rows holds. takes c.args.header.now rows c.args.line.now
    (sentences.Row (named_target c.in-Some.east) (named_target c.in-Some.west)) c.args.self.now.lines
    c.args.self.now.rows c.take_row.new.self.lines c.take_row.new.self.rows c.args.self.now.states.items
    c.take_row.new.self.states.items c.args.self.now.own.items c.take_row.new.self.own.items
    c.args.self.now.ends.drawn c.take_row.new.self.ends.drawn c.args.self.now.ends.fed.items
    c.take_row.new.self.ends.fed.items c.requires.room holds
    (row_is c.args.header.now rows c.args.line.now c.args.self.now.lines c.args.self.now.rows
    c.args.self.now.states.items c.args.self.now.own.items c.args.self.now.ends.drawn
    c.args.self.now.ends.fed.items holds (c.in-Some.east, c.in-Some.west) c.requires.some (sym c.in-Some.ensures))
    (reads rows holds)) c.take_row.ensures.read

pub returns-clause-refused : goal.returns-clause-refused
returns-clause-refused c =
    IfErr-weaker c.take_row.result _ _ (λ r refused rows holds. refuses c.args.header.now rows c.args.line.now
    (sentences.Row (named_target c.in-Some.east) (named_target c.in-Some.west)) c.args.self.now.lines
    c.args.self.now.rows c.args.self.now.states.items c.args.self.now.own.items c.args.self.now.ends.drawn
    c.args.self.now.ends.fed.items r c.requires.room holds (row_is c.args.header.now rows c.args.line.now
    c.args.self.now.lines c.args.self.now.rows c.args.self.now.states.items c.args.self.now.own.items
    c.args.self.now.ends.drawn c.args.self.now.ends.fed.items holds (c.in-Some.east, c.in-Some.west)
    c.requires.some (sym c.in-Some.ensures)) (refused rows holds)) c.take_row.ensures.refused
