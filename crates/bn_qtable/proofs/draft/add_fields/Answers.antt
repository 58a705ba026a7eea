-- One more entry, and its quadruple.
use Rattle.std.proofs.Common.{◌≡◌, ◌<◌, ◌++◌, ◌∷◌, [], arith, rules, true, length}
use Rattle.std.specs.Result.{is_ok}
use Rattle.bn_quad.specs.Kept.{rules_of}
use Rattle.bn_qtable.specs.Draft.{drafted, names_of}
use Rattle.bn_qtable.specs.Fields.{said}
use Rattle.bn_qtable.specs.declared.entry.TheConstants.{MOST_ENTRIES}
use Rattle.bn_qtable.specs.declared.draft.Draft.{Draft}
use Rattle.bn_qtable.proofs.Drafting.{one-drafted}
use Rattle.bn_qtable.proofs.Growing.{few-of}
use Rattle.bn_qtable.proofs.draft.add_fields.Goals as goal

pub number-requires-clause-room : goal.number-requires-clause-room
number-requires-clause-room c =
    let d = c.args.draft.now in
    let few : length (drafted d) < MOST_ENTRIES = c.requires.few in
    let all = few-of (names_of d) (rules_of d.quads.items) (drafted d) c.requires.draft.spelled in
    record {
      states = omega (arith, all.states);
      one = omega (arith, all.one);
      two = omega (arith, all.two);
      three = omega (arith, all.three);
    }

pub returns : goal.returns
returns c =
    let d = c.args.draft.now in
    let d2 : Draft = record { lists = c.number.new.self; quads = c.push.new.self } in
    let good : is_ok c.push.result ≡ true = search rules in
    let pushed : c.push.new.self.items ≡ d.quads.items ++ c.in_ok-quad.quad ∷ [] = rw good at c.push.ensures.items in
    one-drafted d (said c.args.fields.now) c.in_ok-quad.quad d2 c.requires.draft c.in_ok-quad.ensures.adds
    c.in_ok-quad.ensures.kept pushed
