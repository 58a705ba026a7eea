use Rattle.std.specs.Prelude.{◌≤◌, ◌<◌}
use Rattle.std.proofs.Common.{arith, rules, sym}
use Rattle.bn_network_assembly.proofs.SymbolLemmas.{letters_nth}
use Rattle.bn_network.specs.declared.limits.TheConstants.{MOST_SYMBOLS}
use Rattle.bn_reply_builds.proofs.CrowdedLemmas.{all_few, crowded_at, few_before_one, few_more}
use Rattle.bn_reply_builds.proofs.sizes.find_crowded.Goals as goal

pub loop-tape-init : goal.loop-tape-init
loop-tape-init c = few_before_one c.args.machine.now

pub returns-then-symbols-gt-MOST_SYMBOLS : goal.returns-then-symbols-gt-MOST_SYMBOLS
returns-then-symbols-gt-MOST_SYMBOLS c =
    let m = c.args.machine.now in
    let t = c.loop-tape.tape in
    let low : 1 ≤ t = search rules in
    let high : t ≤ 3 = search rules in
    let many : MOST_SYMBOLS < c.symbols-symbols.result = search rules in
    crowded_at m t c.symbols-symbols.result low high (sym (letters_nth m t c.symbols-symbols.result low
    c.symbols-symbols.ensures)) many c.loop-tape.invariant

pub loop-tape-preserved : goal.loop-tape-preserved
loop-tape-preserved c =
    let m = c.args.machine.now in
    let t = c.loop-tape.tape in
    let low : 1 ≤ t = search rules in
    let few : c.symbols-symbols.result ≤ MOST_SYMBOLS = search rules in
    let count = letters_nth m t c.symbols-symbols.result low c.symbols-symbols.ensures in
    few_more m t c.loop-tape.invariant (omega (arith, count, few))

pub returns : goal.returns
returns c =
    let past : 4 ≤ c.loop-tape.tape = search rules in
    all_few c.args.machine.now c.loop-tape.tape past c.loop-tape.invariant
